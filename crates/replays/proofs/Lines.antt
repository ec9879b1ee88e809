-- Equal answers have equal lines, and the text begins with them. Assumes nothing.
use Prim.Native.Nat.{ℕ}
use mathlib.Core.Path.{◌≡◌, refl, sym, ap}
use mathlib.Core.Bool.{Bool, true, false, cond}
use mathlib.Core.List.{List, [], ◌∷◌, ◌++◌, append_assoc}
use native.Mathlib.Omega.{arith}
use lib.Dec.{eqb}
use lib.Seq.{take-append_seam}
use Rattle.fields.specs.Fields.{number_by}
use Rattle.steps.specs.declared.Answer.{Answer}
use Rattle.steps.specs.declared.Step.TheVariants.{Reset, Wake}
use Rattle.steps.specs.Steps.{kind_of}
use Rattle.steps.specs.Answers.{number_of, value_of}
use Rattle.trace.specs.Trace.{record_of, record_by, group_of, frame_at, framed, found_at}
use Rattle.lines.specs.declared.Reason.{Reason}
use Rattle.lines.specs.Lines.{line_of, lines_of, word_of, text_of}
use Rattle.settings.specs.declared.Edition.TheVariants.{Mii}
use Rattle.isolation.specs.Isolation.{through_entry}
use Rattle.isolation.proofs.Isolation.{same_answers}
use Rattle.isolation.proofs.Tightness.{no_reset_asked}
use Rattle.isolation.proofs.Examples.{isolation_examples}
use Rattle.scripts.specs.Scripts.{repeated, read_from, within, limited, script_of}
use Rattle.replays.specs.Replays.{Begins, SameLines, wake_twice, LinesExample}

-- what is printed after the first entry
after : List Answer → List ℕ
after [] = []
after (a ∷ rest) = cond (eqb (number_of a) 11) (lines_of rest) (after rest)

split_at : (a : Answer) (rest : List Answer) (b : Bool) → lines_of rest ≡ lines_of (through_entry rest) ++ after rest
    → lines_of (a ∷ rest) ≡ lines_of (cond b (a ∷ []) (a ∷ through_entry rest)) ++ cond b (lines_of rest) (after rest)
unfolding lines_of
split_at a rest true e = sym (append_assoc (line_of (number_of a) (value_of a)) [] (lines_of rest))
split_at a rest false e = rw (e, append_assoc)

split : (answers : List Answer) → lines_of answers ≡ lines_of (through_entry answers) ++ after answers
unfolding lines_of through_entry after
split [] = refl
split (a ∷ rest) = split_at a rest (eqb (number_of a) 11) (split rest)

begins : (answers : List Answer) (reason : Reason) → Begins (text_of answers reason) (lines_of (through_entry answers))
begins answers reason =
    rw (split answers, append_assoc) (take-append_seam (lines_of (through_entry answers)) (after answers ++ word_of reason))

pub same_lines : SameLines
same_lines m main g h trace from equal none =
    let t = script_of trace in
    (ap lines_of (same_answers m main g h t.steps from equal none), begins _ t.reason, begins _ t.reason)

-- ---- the example

wake_twice_lem : (script_of wake_twice).steps ≡ Wake ∷ Wake ∷ []
unfolding repeated read_from within limited found_at frame_at framed group_of record_of record_by number_by
wake_twice_lem = refl

pub lines_example : LinesExample
lines_example =
    let e = isolation_examples Mii in
    let no-wake : Wake ≡ Reset → ⊥ = λ w. let k = ap kind_of w in omega arith in
    record {
      start = e.start;
      equal = e.equal;
      some = rw wake_twice_lem;
      none = rw wake_twice_lem (no_reset_asked.1 Wake (Wake ∷ []) no-wake (no_reset_asked.1 Wake [] no-wake no_reset_asked.0));
    }
