-- What changes a segment register: a restore that is done, and a reset. Assumes nothing.
use mathlib.Core.Path.{◌≡◌, refl, ap, ◌∙◌}
use mathlib.Core.Bool.{Bool, false}
use Prim.Native.Nat.{ℕ}
use native.Mathlib.Omega.{arith}
use lib.Dec.{eqb}
use lib.ListN.{get_or, take}
use Rattle.fields.proofs.Cases.{either}
use Rattle.memory.specs.declared.Segment.{Segment}
use Rattle.memory.specs.Memory.{Memories, all_there, there, reads, writes}
use Rattle.steps.specs.declared.Step.{Step}
use Rattle.steps.specs.declared.Step.TheVariants.{Reset, Registers, Read, Write, PortRead, PortWrite, Opcode, Boundary, MalformedBoundary, Halt, Wake}
use Rattle.steps.specs.Answers.{number_of}
use Rattle.refusals.proofs.Laws.{by_verdict}
use Rattle.segments.specs.declared.SegmentName.{SegmentName}
use Rattle.segments.specs.Segments.{is_cs}
use Rattle.segments.proofs.Names.{without_cs, named_other}
use Rattle.opcodes.specs.declared.Operation.{Operation}
use Rattle.opcodes.specs.declared.Operation.TheVariants.{Save, Restore, Rdshr, Wrshr, Smint, Rsm, Undefined}
use Rattle.opcodes.specs.Decode.{operation_of, operand_size}
use Rattle.machine.specs.declared.Machine.{Machine}
use Rattle.machine.specs.declared.Stepped.{Stepped}
use Rattle.machine.specs.Machines.{edition_of, segment_in, with_segment}
use Rattle.machine.specs.Outcomes.{Outcome, ends}
use Rattle.machine.specs.Service.{entered_machine, entry, taken, passed, boundary_step, resume}
use Rattle.machine.specs.Steps.{window, valid, operation_on, advanced, saved, restored, smhr_stored, smhr_loaded, operated, with_operand, opcode_step, performed, decided, stepped}
use Rattle.runs.specs.Runs.{Run, run}
use Rattle.runs.proofs.Turns.{steps_in_turn}
use Rattle.runs.proofs.Stretch.{over}
use Rattle.isolation.specs.Service.{answer_to}
use Rattle.service.specs.NoMark.{Completes}
use Rattle.service.specs.Back.{OnlyRestored}
use Rattle.service.proofs.Segments.{same_segments}

-- the register n of k is the same in an outcome
record Stays (k : Machine) (n : SegmentName) (out : Outcome) : Type 0 where
  held : segment_in out.stepped.machine n ≡ segment_in k n

module _ (k : Machine) (y : Memories) (n : SegmentName) (other : is_cs n ≡ false) where
  -- all of them are
  all : (out : Outcome) → out.stepped.machine.segments ≡ k.segments → Stays k n out
  all out e = record { held = same_segments k out.stepped.machine n other e }

  -- a restore of another
  apart : (l : SegmentName) (g : Segment) (next : ℕ) → (l ≡ n → ⊥) → segment_in (advanced (with_segment k l g) next) n ≡ segment_in k n
  apart l g next d =
      either (λ (m : Machine). segment_in (advanced m next) n ≡ segment_in k n) (is_cs l)
      (λ h. without_cs k.segments _ k.registers.cs n other) (λ h. named_other k.segments k.registers.cs g l n d)

  -- an outcome of the step s, where it has the answer that s is given
  abbrev If : Step → Outcome → Type 0
  If s out = answer_to k y s ≡ number_of out.stepped.answer → Stays k n out

  module _ (op modrm a next : ℕ) (none : (c : ℕ) → Completes k y (Restore n) c (Opcode op modrm a next) → ⊥) where
    operated_stays : (o : Operation) → operation_of (edition_of k) op modrm ≡ o → If (Opcode op modrm a next) (operated k y o a next)
    unfolding operated saved restored smhr_stored smhr_loaded entry entered_machine resume
    operated_stays (Save l) d h = all _ refl
    operated_stays (Restore l) d h =
        record { held = apart l _ next (λ e. none a (Completes.completes (d ∙ ap Restore e) h)) }
    operated_stays Rdshr d h = all _ refl
    operated_stays Wrshr d h = all _ refl
    operated_stays Smint d h = all _ refl
    operated_stays Rsm d h = all _ refl
    operated_stays Undefined d h = all _ refl

    opcode_stays : If (Opcode op modrm a next) (opcode_step k y op modrm a next)
    unfolding opcode_step operation_on with_operand operated all_there
    opcode_stays =
        let o = operation_of (edition_of k) op modrm in
        let s = Opcode op modrm a next in
        either (λ (q : Operation). If s (with_operand k y q a next)) (valid k o)
        (λ v. either (If s) (there (window k) y a (operand_size o)) (λ t. operated_stays o refl) (λ t h. all _ refl))
        (λ v h. all _ refl)

  boundary_stays : (asserted : Bool) → Stays k n (ends (passed k asserted) y)
  unfolding passed
  boundary_stays asserted =
      let P : Stepped → Type 0 = λ r. Stays k n (ends r y) in
      either P asserted (λ h. either P k.inside (λ i. all _ refl) (λ i. all _ refl)) (λ h. all _ refl)

  performed_stays : (s : Step) → (s ≡ Reset → ⊥) → ((c : ℕ) → Completes k y (Restore n) c s → ⊥) → If s (performed k y s)
  unfolding performed reads writes boundary_step entry entered_machine
  performed_stays Reset reset none h = absurd (reset refl)
  performed_stays (Registers eip eflags cr0 dr7 selector descriptor level writable) reset none h = all _ refl
  performed_stays (Read width a) reset none h = all _ refl
  performed_stays (Write width a v) reset none h = all _ refl
  performed_stays (PortRead port) reset none h = all _ refl
  performed_stays (PortWrite port v) reset none h = all _ refl
  performed_stays (Opcode op modrm a next) reset none h = opcode_stays op modrm a next none h
  performed_stays (Boundary smi current i) reset none h =
      either (Stays k n) (taken k (eqb smi 1)) (λ t. all _ refl) (λ t. boundary_stays (eqb smi 1))
  performed_stays MalformedBoundary reset none h = all _ refl
  performed_stays Halt reset none h = all _ refl
  performed_stays Wake reset none h = all _ refl

  step_stays : (s : Step) → (s ≡ Reset → ⊥) → ((c : ℕ) → Completes k y (Restore n) c s → ⊥) → Stays k n (stepped k y s)
  unfolding stepped
  step_stays s reset none =
      by_verdict k.halted y s (λ v. If s (decided k y s v)) (λ r h. all _ refl) (λ r h. all _ refl) (λ r h. all _ refl)
      (λ t. performed_stays s reset none) refl

pub only_restored : OnlyRestored
only_restored k y ss n from to other up within none =
    let at : ℕ → Run = λ l. run k y (take l ss) in
    over (λ l. segment_in (at l).machine n) from to up
    (λ l p q.
    let t = none l p q in
    ap (λ (m : Machine). segment_in m n) ((steps_in_turn k y ss).1 l (omega arith)).left.0
    ∙ (step_stays (at l).machine (at l).memory n other (get_or ss l Wake) t.0 t.1).held)
