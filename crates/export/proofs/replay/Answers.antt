use mathlib.Core.Path.{◌≡◌, refl, ap, ◌∙◌}
use mathlib.Core.List.{[]}
use Prim.Native.Nat.{ℕ}
use lib.ListN.{get_or}
use Rattle.lines.specs.declared.Reason.{Reason}
use Rattle.lines.specs.declared.Reason.TheVariants as why
use Rattle.lines.specs.Lines.{word_of}
use Rattle.export.specs.Export.{reason_number, reason_words}
use Rattle.export.proofs.replay.Goals as goal

words_agree : (r : Reason) → get_or reason_words (reason_number r) [] ≡ word_of r
words_agree why.End = refl
words_agree why.Limit = refl
words_agree why.Torn = refl
words_agree why.Bad = refl

pub returns-clause-replays : goal.returns-clause-replays
returns-clause-replays c =
    let w = rw c.initial.ensures at c.play-played.ensures in
    record { leaves = w.leaves; reason_is = c.reason_number.ensures ∙ ap reason_number w.reason_is }

pub returns-clause-word : goal.returns-clause-word
returns-clause-word c =
    let w = rw c.initial.ensures at c.play-played.ensures in
    ap (λ (k : ℕ). get_or reason_words k []) c.reason_number.ensures ∙ words_agree c.play-played.result.reason ∙ ap word_of w.reason_is
