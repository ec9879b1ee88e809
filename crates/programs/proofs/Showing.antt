use Rattle.std.proofs.Common.{ℕ, List}
use Rattle.settings.specs.declared.Edition.{Edition}
use Rattle.programs.specs.Programs.{Shown, none, one, ShowsAtMost, nothing, text}

-- what a failed read or write leaves is no text or one
pub shown_at_most : {e : Edition} {before after : List ℕ} → ShowsAtMost e before after → Shown e before after
shown_at_most nothing = none
shown_at_most (text s) = one s
