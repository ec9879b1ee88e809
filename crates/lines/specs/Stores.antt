-- The text as the code is given it, by the events of a log, and where it is stored.
use Rattle.std.specs.Prelude.{◌≡◌, ℕ, ◌+◌, ◌≤◌, min, List, [], ◌∷◌, ◌++◌, length, take}
use Rattle.std.proofs.lemmas.List.Edits.{sets}
use Rattle.events.specs.Events.{number_in, value_in}
use Rattle.lines.specs.declared.Reason.{Reason}
use Rattle.lines.specs.Lines.{line_of, word_of}

-- an event's line
abbrev pub line_for : ℕ → List ℕ
line_for e = line_of (number_in e) (value_in e)

unfoldable pub lines_for : List ℕ → List ℕ
lines_for [] = []
lines_for (e ∷ rest) = line_for e ++ lines_for rest

-- the text of a log's first events, of which there are count, but at most 10,000
abbrev pub text_for : List ℕ → ℕ → Reason → List ℕ
text_for events count reason = lines_for (take (min count 10000) events) ++ word_of reason

-- the text stands in the buffer from a place up to an end, and no other byte has changed
pub record Stored (text : List ℕ) (place end : ℕ) (before after : List ℕ) : Type 0 where
  pub ends : end ≡ place + length text
  pub fits : end ≤ length before
  pub stands : after ≡ sets before place text

-- it stands at the buffer's start
abbrev pub Printed : List ℕ → ℕ → List ℕ → List ℕ → Type 0
Printed text size before after = Stored text 0 size before after
