-- The examples. Their management memories are taken as any list of the right length: none is ever written out. Assumes nothing.
use mathlib.Core.Path.{◌≡◌, refl, sym, ap, ◌∙◌}
use mathlib.Core.Bool.{Bool, true, false, cond, and-false}
use mathlib.Core.List.{List, [], ◌∷◌}
use Prim.Native.Nat.{ℕ, ◌<◌, ◌^◌}
use native.Mathlib.Omega.{arith}
use lib.ListN.{length, replicate, length-replicate}
use Rattle.std.proofs.Common.{Option}
use Rattle.region.specs.Region.{region_of, size_of, usable, within}
use Rattle.fields.specs.Fields.{number_by}
use Rattle.memory.specs.Memory.{Memories, memories, absent, all_there}
use Rattle.steps.specs.declared.Answer.TheVariants.{Done}
use Rattle.steps.specs.Answers.{refusal}
use Rattle.steps.specs.declared.Interruption.{Interruption}
use Rattle.steps.specs.declared.Interruption.TheVariants.{None, Input, Output, StringInput, StringOutput, RepInput, RepOutput}
use Rattle.steps.specs.declared.Step.{Step}
use Rattle.steps.specs.declared.Step.TheVariants.{Read, PortRead, Opcode, Boundary, MalformedBoundary, Halt}
use Rattle.steps.specs.Widths.{TransferFits, InterruptionFits, StepFits}
use Rattle.steps.specs.Steps.{is_width, kind_of}
use Rattle.refusals.specs.Refusals.{wrong_sizes, malformed_on, program_while_halted, first_refusal}
use Rattle.refusals.proofs.Laws.{taken_allowed}
use Rattle.settings.specs.declared.Edition.{Edition}
use Rattle.settings.specs.declared.Edition.TheVariants.{Cx486, Mii}
use Rattle.settings.specs.Settings.{window_of, header_end, header_fits, header_place, enabled, opcodes_allowed, with_byte, with_smhr}
use Rattle.config.specs.Ports.{internal, always_internal}
use Rattle.header.specs.Header.{trap_of}
use Rattle.opcodes.specs.declared.Operation.TheVariants.{Smint}
use Rattle.opcodes.specs.Decode.{smint_opcode, operation_of, grouped}
use Rattle.machine.specs.declared.Machine.{Machine}
use Rattle.segments.specs.Segments.{reset_segments}
use Rattle.machine.specs.Machines.{with_halted}
use Rattle.machine.specs.Outcomes.{Outcome, ends}
use Rattle.machine.specs.Steps.{permitted, valid, halt_step, performed, stepped}
use Rattle.isolation.specs.Widths.{SegmentFits, MachineFits}
use Rattle.runs.specs.Runs.{run, answers_of}
use Rattle.isolation.specs.Refusals.{called_for}
use Rattle.isolation.specs.Service.{Entering, Passing, PointersBy}
use Rattle.isolation.specs.Service.Entering.{at_boundary, by_smint}
use Rattle.isolation.specs.Isolation.{NoReset, UpToEntry, last_number}
use Rattle.isolation.specs.Examples.{sample_settings, sample, locked, under_smac, filled, steps_to_entry, rsm, IsolationExamples, EntryExample, SmintExamples, BoundaryExample, byte_out, BoundaryExamples, disabled, PassingExamples, RefusalExamples, LaterExamples, AlikeExample}
use Rattle.fields.proofs.Cases.{unlike}
use Rattle.isolation.proofs.Service.{performs, answered_allowed, enters_where_due, enters_as_stated, passes_as_stated, resumes_as_stated, resumes_as_entered}
use Rattle.isolation.proofs.Pointers.{pointers_as_stated}
use Rattle.isolation.proofs.Tightness.{no_reset_asked, up_to_entry_asked}

-- the boundaries and the SMINT that enter
abbrev met : Interruption → Step
met i = Boundary 1 0x1000 i

abbrev entering : Step
entering = met None

abbrev smint : Edition → Step
smint e = Opcode (smint_opcode e) 0 0 0x1002

-- SMHR lies in the region's midst, so the header fits in either edition
header_fits_lem : (e : Edition) (ccr1 ccr3 : ℕ) → header_fits (sample_settings e ccr1 ccr3) ≡ true
unfolding header_fits header_end region_of size_of
header_fits_lem Cx486 ccr1 ccr3 = refl
header_fits_lem Mii ccr1 ccr3 = refl

pub due_at_boundary : (e : Edition) (halted : Bool) (i : Interruption) → Entering (with_halted (locked e) halted) (met i)
unfolding enabled usable region_of size_of
due_at_boundary e halted i = at_boundary (rw (header_fits_lem e 0x02 0x01)) (λ h. unlike h refl) refl

is_smint : (e : Edition) → operation_of e (smint_opcode e) 0 ≡ Smint
unfolding operation_of
is_smint Cx486 = refl
is_smint Mii = refl

due_by_smint : (e : Edition) → Entering (under_smac e) (smint e)
unfolding valid permitted opcodes_allowed usable region_of size_of
due_by_smint e = by_smint (is_smint e) (rw (header_fits_lem e 0x06 0x01))

module _ (g : List ℕ) (long : length g ≡ 65536) where
  abbrev x : Memories
  x = memories [] g

  pub whole : wrong_sizes x ≡ false
  unfolding wrong_sizes
  whole = rw long

  pub allowed : (halted : Bool) (s : Step) → malformed_on halted s ≡ false → program_while_halted halted s ≡ false → first_refusal halted x s ≡ Option.None
  allowed halted s formed awake = taken_allowed halted x s (record { sizes = whole; formed = formed; awake = awake })

  pub boundary_allowed : (halted : Bool) (i : Interruption) → malformed_on halted (met i) ≡ false → first_refusal halted x (met i) ≡ Option.None
  unfolding program_while_halted
  boundary_allowed halted i formed = allowed halted (met i) formed (and-false halted)

  module _ (e : Edition) where
    called_for_lem : (called_for (locked e) x Halt ≡ 0)
        × (called_for (locked e) x MalformedBoundary ≡ 2)
        × (called_for (with_halted (locked e) true) x (PortRead 0x22) ≡ 3)
        × (called_for (locked e) x (Opcode 0xaa 0 0 0) ≡ 4)
        × (called_for (locked e) x (Read 4 0) ≡ 5)
    unfolding called_for malformed_on program_while_halted valid permitted opcodes_allowed window_of within usable region_of size_of absent all_there is_width
    called_for_lem = (rw whole, rw whole, rw whole, rw whole, rw whole)

    later_called_for :
        (called_for (under_smac Mii) x (Opcode 0x36 0 0 0) ≡ 5)
        × (called_for (under_smac Mii) x (Opcode 0x37 0 0 0) ≡ 4)
        × (called_for (under_smac Mii) x (Opcode 0x38 0 0 0) ≡ 0)
        × (called_for (under_smac Mii) x (Opcode 0x7e 0 0 0) ≡ 4)
    unfolding called_for malformed_on program_while_halted valid permitted opcodes_allowed window_of within usable region_of size_of absent all_there is_width operation_of grouped header_fits header_end
    later_called_for = (rw whole, rw whole, rw whole, rw whole)

    smint_allowed : first_refusal false x (smint e) ≡ Option.None
    unfolding malformed_on program_while_halted
    smint_allowed = allowed false (smint e) refl refl

    refuses : refusal (stepped (locked e) x MalformedBoundary).stepped.answer ≡ true
    unfolding stepped first_refusal malformed_on
    refuses = rw whole

    halts : stepped (locked e) x Halt ≡ ends (halt_step (locked e)) x
    unfolding malformed_on program_while_halted performed
    halts = performs (locked e) x Halt (allowed false Halt refl refl)

    answers : answers_of (run (locked e) x steps_to_entry) ≡ Done ∷ (stepped (with_halted (locked e) true) x entering).stepped.answer ∷ []
    unfolding run
    answers = rw halts

    ends_at_entry : UpToEntry (answers_of (run (locked e) x steps_to_entry))
    ends_at_entry = rw answers (up_to_entry_asked.2 Done _ [] (λ e. omega arith) (up_to_entry_asked.1 _))

    enters_last : last_number (answers_of (run (locked e) x steps_to_entry)) ≡ 11
    unfolding malformed_on
    enters_last = rw answers (enters_where_due (with_halted (locked e) true) x entering (boundary_allowed true None refl) (due_at_boundary e true None))

pub full : (b : ℕ) → length (replicate 65536 b) ≡ 65536
full b = length-replicate 65536 b

pub refusal_examples : RefusalExamples
unfolding called_for wrong_sizes
refusal_examples e =
    let c = called_for_lem (replicate 65536 0) (full 0) e in
    (c.0, refl, c.1, c.2, c.3, c.4, refuses (replicate 65536 0) (full 0) e)

pub later_examples : LaterExamples
unfolding header_place header_end region_of size_of internal always_internal
later_examples =
    let c = later_called_for (replicate 65536 0) (full 0) Mii in
    (refl, c.0, c.1, c.2, c.3, refl, refl, refl, refl, refl)

pub alike_example : AlikeExample
unfolding enabled header_fits header_end usable region_of size_of with_smhr with_byte
alike_example = record { off = refl; mode = refl; end = refl; on = (refl, refl) }

flat_fits : SegmentFits reset_segments.ds
unfolding number_by
flat_fits = record { selector = omega arith; descriptor = omega arith }

none_fits : SegmentFits reset_segments.tr
none_fits = record { selector = omega arith; descriptor = omega arith }

pub sample_fits : (e : Edition) (ccr1 ccr3 : ℕ) → ccr1 < 2 ^ 8 → ccr3 < 2 ^ 8 → MachineFits (sample e ccr1 ccr3)
unfolding number_by
sample_fits e ccr1 ccr3 h k = record {
  registers = record {
    eip = omega arith;
    eflags = omega arith;
    cr0 = omega arith;
    dr7 = omega arith;
    selector = omega arith;
    descriptor = omega arith;
  };
  segments = record { ds = flat_fits; es = flat_fits; fs = flat_fits; gs = flat_fits; ss = flat_fits; ldtr = none_fits; tr = none_fits };
  settings = record {
    ccr1 = h;
    ccr3 = k;
    high = omega arith;
    middle = omega arith;
    low = omega arith;
    ccr6 = omega arith;
    smhr0 = omega arith;
    smhr1 = omega arith;
    smhr2 = omega arith;
    smhr3 = omega arith;
  };
  index = omega arith;
}

-- an entry that is due, and RSM after it
pub entry_example : (m : Machine) (s : Step) → MachineFits m → StepFits s → first_refusal m.halted (filled 0) s ≡ Option.None → Entering m s
    → EntryExample m s
entry_example m s f w may by =
    let e = enters_where_due m (filled 0) s may by in
    let o = stepped m (filled 0) s in
    let r = (resumes_as_entered m (filled 0) s 0 0 0 f w e by).answer in
    record {
      machine = f;
      step = w;
      allowed = may;
      by = by;
      entered = e;
      back = record {
        allowed = answered_allowed o.stepped.machine o.memory rsm (omega (arith, r));
        by = (resumes_as_stated o.stepped.machine o.memory rsm r).by;
        resumed = r;
      };
    }

pub locked_fits : (e : Edition) → MachineFits (locked e)
locked_fits e = sample_fits e 0x02 0x01 (omega arith) (omega arith)

halted_fits : (e : Edition) (halted : Bool) → MachineFits (with_halted (locked e) halted)
halted_fits e halted =
    let f = locked_fits e in record { registers = f.registers; segments = f.segments; settings = f.settings; index = f.index }

smint_fits : (e : Edition) → StepFits (smint e)
smint_fits Cx486 = (omega arith, omega arith, omega arith, omega arith)
smint_fits Mii = (omega arith, omega arith, omega arith, omega arith)

-- one at a boundary, and its IP words
module _ (e : Edition) (halted : Bool) (i : Interruption) (formed : malformed_on halted (met i) ≡ false) (fits : InterruptionFits i) where
  abbrev before : Machine
  before = with_halted (locked e) halted

  abbrev after : Outcome
  after = stepped before (filled 0) (met i)

  met_fits : StepFits (met i)
  met_fits = (omega arith, omega arith, fits)

  entered_there : EntryExample before (met i)
  entered_there =
      entry_example before (met i) (halted_fits e halted) met_fits (boundary_allowed (replicate 65536 0) (full 0) halted i formed)
      (due_at_boundary e halted i)

  pointed : PointersBy before 0x1000 i after (stepped after.stepped.machine after.memory rsm)
  pointed = pointers_as_stated before (filled 0) 1 0x1000 i 0 0 0 (halted_fits e halted) met_fits entered_there.entered

  with_rep : (trap_of i).rep ≡ true → BoundaryExample before i 0x1000 0x1000
  with_rep p = record { entry = entered_there; pointers = pointed.rep p }

  without_rep : (trap_of i).rep ≡ false → BoundaryExample before i (cond halted 0xfff0 0x1000) 0xfff0
  without_rep p = record { entry = entered_there; pointers = pointed.other p }

pub boundary_examples : BoundaryExamples
unfolding malformed_on is_width
boundary_examples e =
    let out : TransferFits byte_out = record { port = omega arith; size = omega arith; value = omega arith } in (
      with_rep e false (RepInput 0x5000) refl (omega arith) refl,
      with_rep e false (RepOutput byte_out 0x5000) refl (out, omega arith) refl,
      without_rep e false None refl tt refl,
      without_rep e false Input refl tt refl,
      without_rep e false (Output byte_out) refl out refl,
      without_rep e false (StringInput 0x5000) refl (omega arith) refl,
      without_rep e false (StringOutput byte_out 0x5000) refl (out, omega arith) refl,
      without_rep e true None refl tt refl,
    )

pub smint_examples : SmintExamples
smint_examples e =
    entry_example (under_smac e) (smint e) (sample_fits e 0x06 0x01 (omega arith) (omega arith)) (smint_fits e)
    (smint_allowed (replicate 65536 0) (full 0) e) (due_by_smint e)

not_program : (smi : ℕ) → program_while_halted false (Boundary smi 0x1000 None) ≡ false
unfolding program_while_halted
not_program smi = refl

-- with USE_SMI 0 no boundary enters
none_enters : (e : Edition) (inside : Bool) (smi : ℕ) → Entering (disabled e inside) (Boundary smi 0x1000 None) → ⊥
unfolding enabled
none_enters e inside smi (at_boundary on may asked) = unlike on refl

pub passing_examples : PassingExamples
unfolding malformed_on
passing_examples e =
    let pass : (inside : Bool) (smi : ℕ) → malformed_on false (Boundary smi 0x1000 None) ≡ false
    → Passing (disabled e inside) (filled 0) smi (stepped (disabled e inside) (filled 0) (Boundary smi 0x1000 None))
    = λ inside smi formed.
    let m = disabled e inside in
    let s = Boundary smi 0x1000 None in
    passes_as_stated m (filled 0) smi 0x1000 None (allowed (replicate 65536 0) (full 0) false s formed (not_program smi))
    (λ h. none_enters e inside smi (enters_as_stated m (filled 0) s h).by) in (
      (pass true 1 refl).latched refl refl,
      (pass false 1 refl).ignored refl refl,
      (pass true 0 refl).nothing (λ h. omega arith),
      (pass false 0 refl).nothing (λ h. omega arith),
    )

steps_none : NoReset steps_to_entry
steps_none =
    let more = no_reset_asked.1 in
    more Halt (entering ∷ []) (λ e. let k = ap kind_of e in omega arith)
    (more entering [] (λ e. let k = ap kind_of e in omega arith) no_reset_asked.0)

pub isolation_examples : IsolationExamples
isolation_examples e = record {
  start = record { outside = refl; locked = refl; closed = refl; bytes = (locked_fits e).settings };
  none = steps_none;
  equal = full 0 ∙ sym (full 1);
  first = ends_at_entry (replicate 65536 0) (full 0) e;
  second = ends_at_entry (replicate 65536 1) (full 1) e;
  entered = enters_last (replicate 65536 0) (full 0) e;
}
