-- 01, "Trace player", and 02, request 1: what a program leaves in the buffer that holds its text. Nothing here says what a read gives,
-- so the input is named.
use Rattle.std.specs.Prelude.{ℕ, ◌≤◌, ◌<◌, List, length, get_or}
use Rattle.settings.specs.declared.Edition.{Edition}
use Rattle.lines.specs.Stores.{Printed}
use Rattle.player.specs.Output.{output_of}

-- The text that the edition's program prints for some input stands at the buffer's start, and no other byte has changed. The input is a list of
-- bytes, of which one more than the 65,536 that are taken may be read, so that a longer input is seen.
pub record Shows (e : Edition) (size : ℕ) (before after : List ℕ) : Type 0 where
  pub input : List ℕ
  pub bytes : (i : ℕ) → get_or input i 0 < 256
  pub most : length input ≤ 65537
  pub text : Printed (output_of e input) size before after

-- no text, one, or some and then others, each over what the one before left
pub data Shown (e : Edition) : List ℕ → List ℕ → Type 0 where
  none : {out : List ℕ} → Shown e out out
  one : {size : ℕ} {before after : List ℕ} → Shows e size before after → Shown e before after
  then : {before between after : List ℕ} → Shown e before between → Shown e between after → Shown e before after

-- What a failed read or write leaves: the buffer as it was, or the text of what was read, which may not have been printed.
pub data ShowsAtMost (e : Edition) : List ℕ → List ℕ → Type 0 where
  nothing : {out : List ℕ} → ShowsAtMost e out out
  text : {size : ℕ} {before after : List ℕ} → Shows e size before after → ShowsAtMost e before after
