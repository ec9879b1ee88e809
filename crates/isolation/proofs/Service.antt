-- Demand 2. Assumes nothing.
use mathlib.Core.Path.{◌≡◌, refl, sym, ap, ◌∙◌}
use mathlib.Core.Bool.{Bool, true, false, ◌&&◌, and-false, and-eq-true_iff}
use Prim.Native.Nat.{ℕ, ◌+◌, ◌*◌, ◌^◌, ◌<◌}
use native.Mathlib.Omega.{arith}
use lib.Dec.{eqb}
use lib.Seq.{length-sets}
use borrow.Author.Tests.{not-true, eq-eqb, ne_eqb}
use Rattle.std.proofs.Common.{Option}
use Rattle.memory.specs.Memory.{Memories, all_there}
use Rattle.steps.specs.declared.Transfer.{Transfer}
use Rattle.steps.specs.declared.Interruption.{Interruption}
use Rattle.steps.specs.declared.Interruption.TheVariants.{None, Input, Output, StringInput, StringOutput, RepInput, RepOutput}
use Rattle.steps.specs.declared.Step.{Step}
use Rattle.steps.specs.declared.Step.TheVariants.{Opcode, Boundary}
use Rattle.steps.specs.Answers.{number_of}
use Rattle.steps.specs.Widths.{TransferFits, InterruptionFits, StepFits}
use Rattle.refusals.specs.Refusals.{wrong_sizes, malformed_on, program_while_halted, first_refusal}
use Rattle.refusals.proofs.Laws.{taken_allowed, by_verdict}
use Rattle.settings.specs.declared.Edition.{Edition}
use Rattle.settings.specs.declared.Edition.TheVariants.{Cx486, Mii}
use Rattle.settings.specs.Settings.{header_fits, header_place, opcodes_allowed}
use Rattle.nesting.specs.Nesting.{enhanced, entered_settings, stays_inside}
use Rattle.nesting.proofs.Moving.{last_moves}
use Rattle.header.specs.Header.{size_bits, port_size, cut, trap_of, header_bytes, headed}
use Rattle.header.specs.Entry.{entry_registers}
use Rattle.header.specs.ReadBack.{SavedFits}
use Rattle.header.proofs.ReadBack.{registers_back, nested_back}
use Rattle.opcodes.specs.declared.Operation.TheVariants.{Rsm}
use Rattle.opcodes.specs.Decode.{operation_of}
use Rattle.machine.specs.declared.Machine.{Machine}
use Rattle.machine.specs.Outcomes.{Outcome, ends}
use Rattle.machine.specs.Machines.{settings_of, edition_of}
use Rattle.machine.specs.Service.{entered_machine, entry, taken, passed, boundary_step, resume}
use Rattle.machine.specs.Steps.{permitted, valid, operation_on, operated, with_operand, opcode_step, performed, decided, stepped}
use Rattle.isolation.specs.Widths.{MachineFits}
use Rattle.isolation.specs.Service.{answer_to, Entering, recorded, latch_after, EntersWhereDue, EntersAsStated, Passing, PassesAsStated, ResumesWhereDue, ResumesAsStated, Resume, ResumesAsEntered}
use Rattle.isolation.specs.Service.Entering.{at_boundary, by_smint}
use Rattle.isolation.specs.Service.Resuming.{by_rsm}
use Rattle.fields.proofs.Cases.{either, unlike}
use Rattle.isolation.proofs.Nesting.{entered_kept, takes_is, nestable_enhanced}
use Rattle.isolation.proofs.Doing.{Able}
use Rattle.isolation.proofs.Entering.{only_header, room, enters, resumes}

-- a step that is allowed is performed
pub performs : (m : Machine) (x : Memories) (s : Step) → first_refusal m.halted x s ≡ Option.None → stepped m x s ≡ performed m x s
unfolding stepped
performs m x s e = ap (decided m x s) e

-- and one that is answered by more than 3 is allowed
pub answered_allowed : (m : Machine) (x : Memories) (s : Step) → 3 < answer_to m x s → first_refusal m.halted x s ≡ Option.None
unfolding stepped
answered_allowed m x s =
    by_verdict m.halted x s (λ v. 3 < number_of (decided m x s v).stepped.answer → v ≡ Option.None)
    (λ k h. absurd (omega arith)) (λ k h. absurd (omega arith)) (λ k h. absurd (omega arith)) (λ t h. refl)

-- ---- which steps enter, and which resume

pub enters_where_due : EntersWhereDue
unfolding performed boundary_step taken opcode_step operation_on with_operand operated all_there entry
enters_where_due m x s may (at_boundary {smi} {current} {i} on inner asked) =
    rw (performs m x (Boundary smi current i) may, takes_is (settings_of m) m.inside on inner, asked)
enters_where_due m x s may (by_smint {op} {modrm} {a} {next} d v) = rw (performs m x (Opcode op modrm a next) may, d, v)

pub resumes_where_due : ResumesWhereDue
unfolding performed opcode_step operation_on with_operand operated all_there resume
resumes_where_due m x s may (by_rsm {op} {modrm} {a} {next} d v) = rw (performs m x (Opcode op modrm a next) may, d, v)

-- ---- what entry writes and loads

pub enters_as_stated : EntersAsStated
unfolding entry entered_machine entry_registers
enters_as_stated m x s h =
    let e = enters m x s h in
    rw e.outcome
    (record {
      by = e.by;
      eip = refl;
      eflags = refl;
      dr7 = refl;
      cr0 = refl;
      cs = refl;
      level = refl;
      writable = refl;
      halted = refl;
      inside = refl;
      latched = refl;
      segments = refl;
      config = refl;
      main = refl;
      management = only_header x.management (header_place (settings_of m)) (recorded m e.by) (room m x e.able);
    })

-- ---- what a boundary does that doesn't enter

pub passes_as_stated : PassesAsStated
unfolding performed boundary_step entry passed
passes_as_stated m x smi current i may not = rw (performs m x (Boundary smi current i) may) (go (taken m (eqb smi 1)) refl)
  where
    go : (b : Bool) → taken m (eqb smi 1) ≡ b → Passing m x smi (boundary_step m x (eqb smi 1) current i)
    go true e = absurd (not (rw (performs m x (Boundary smi current i) may, e)))
    go false e =
        rw e
        (record {
          latched = λ h k. rw (eq-eqb smi 1 h, k);
          ignored = λ h k. rw (eq-eqb smi 1 h, k);
          nothing = λ h. rw (ne_eqb smi 1 h);
        })

-- ---- what RSM loads

pub resumes_as_stated : ResumesAsStated
unfolding resume
resumes_as_stated m x s h =
    let r = resumes m x s h in
    rw r.outcome
    (record {
      by = r.by;
      registers = refl;
      halted = refl;
      inside = refl;
      latched = refl;
      segments = refl;
      config = refl;
      memory = refl;
    })

-- ---- the numbers that are recorded have the header's widths

transfer_fits : (t : Transfer) → TransferFits t → port_size t < 2 ^ 32
unfolding size_bits
transfer_fits t f =
    let P : ℕ → Type 0 = λ n. t.port + 65536 * n < 2 ^ 32 in
    let h = f.port in
    either P (eqb t.size 1) (λ k. omega arith) (λ k. either P (eqb t.size 2) (λ l. omega arith) (λ l. omega arith))

cut_fits : (t : Transfer) → TransferFits t → cut t < 2 ^ 32
unfolding cut
cut_fits t f =
    let P : ℕ → Type 0 = λ n. n < 2 ^ 32 in
    either P (eqb t.size 1) (λ k. omega arith) (λ k. either P (eqb t.size 2) (λ l. omega arith) (λ l. f.value))

trap_fits : (i : Interruption) → InterruptionFits i → ((trap_of i).transfer < 2 ^ 32) × ((trap_of i).value < 2 ^ 32) × ((trap_of i).index < 2 ^ 32)
trap_fits None f = (omega arith, omega arith, omega arith)
trap_fits Input f = (omega arith, omega arith, omega arith)
trap_fits (Output t) f = (transfer_fits t f, cut_fits t f, omega arith)
trap_fits (StringInput index) f = (omega arith, omega arith, f)
trap_fits (StringOutput t index) f = (transfer_fits t f.0, cut_fits t f.0, f.1)
trap_fits (RepInput index) f = (omega arith, omega arith, f)
trap_fits (RepOutput t index) f = (transfer_fits t f.0, cut_fits t f.0, f.1)

pub recorded_fits : (m : Machine) {s : Step} (by : Entering m s) → MachineFits m → StepFits s → SavedFits (recorded m by)
recorded_fits m (at_boundary {smi} {current} {i} on inner asked) f w =
    let r = f.registers in
    let k = trap_fits i w.2 in
    let P : ℕ → Type 0 = λ n. n < 2 ^ 32 in
    let ip = either P m.halted (λ h. r.eip) (λ h. w.1) in
    record {
      registers = r;
      current = ip;
      next = either P (trap_of i).rep (λ h. ip) (λ h. r.eip);
      transfer = k.0;
      value = k.1;
      index = k.2;
    }
recorded_fits m (by_smint {op} {modrm} {a} {next} d v) f w =
    let r = f.registers in
    record { registers = r; current = r.eip; next = w.3; transfer = omega arith; value = omega arith; index = omega arith }

-- ---- what RSM loads back right after entry

-- a step enters in one way only, and records the registers
pub one_way : (m : Machine) {s : Step} (by by' : Entering m s) → recorded m by ≡ recorded m by'
one_way m (at_boundary o n k) (at_boundary o' n' k') = refl
one_way m (by_smint d v) (by_smint d' v') = refl

pub same_registers : (m : Machine) {s : Step} (by : Entering m s) → (recorded m by).registers ≡ m.registers
same_registers m (at_boundary on inner asked) = refl
same_registers m (by_smint d v) = refl

-- it records where it came from, and comes from inside only where service nests
pub origin : (m : Machine) {s : Step} (by : Entering m s) → ((recorded m by).nested ≡ m.inside) × (m.inside ≡ true → enhanced (settings_of m) ≡ true)
unfolding valid
origin m (at_boundary on inner asked) = (refl, λ h. nestable_enhanced (settings_of m) (inner h))
origin m (by_smint d v) =
    let outside = not-true m.inside ((and-eq-true_iff _ _).0 ((and-eq-true_iff (permitted m) _).0 v).1).0 in
    (sym outside, λ h. unlike h outside)

-- so RSM by what it recorded goes back there
back_where : (m : Machine) {s : Step} (by : Entering m s) → stays_inside (entered_settings (settings_of m)) (recorded m by).nested ≡ m.inside
unfolding stays_inside
back_where m by = rw ((entered_kept (settings_of m)).enhanced, (origin m by).0) (go m.inside (origin m by).1)
  where
    go : (b : Bool) → (b ≡ true → enhanced (settings_of m) ≡ true) → (enhanced (settings_of m) && b) ≡ b
    go true h = rw (h refl)
    go false h = and-false (enhanced (settings_of m))

pub is_rsm_lem : (e : Edition) (modrm : ℕ) → operation_of e 0xaa modrm ≡ Rsm
unfolding operation_of
is_rsm_lem Cx486 modrm = refl
is_rsm_lem Mii modrm = refl

pub rsm_resumes : (m : Machine) (x : Memories) (modrm a next : ℕ)
    → wrong_sizes x ≡ false → m.halted ≡ false → m.inside ≡ true → permitted m ≡ true → header_fits (settings_of m) ≡ true
    → stepped m x (Opcode 0xaa modrm a next) ≡ ends (resume m x.management) x
unfolding malformed_on program_while_halted valid
rsm_resumes m x modrm a next sizes awake inside may fits =
    let s = Opcode 0xaa modrm a next in
    let taken = taken_allowed m.halted x s (record { sizes = sizes; formed = rw awake; awake = rw awake }) in
    (resumes m x s (resumes_where_due m x s taken (by_rsm (is_rsm_lem (edition_of m) modrm) (rw (may, inside, fits))))).outcome

module _ (m : Machine) (x : Memories) (s : Step) (by by' : Entering m s) (able : Able m x) (modrm a next : ℕ)
    (fits : SavedFits (recorded m by)) where
  abbrev inside : Outcome
  inside = entry m x (recorded m by) (latch_after m by)

  sizes_kept : wrong_sizes inside.memory ≡ false
  unfolding wrong_sizes entry headed
  sizes_kept = rw (length-sets x.management (header_place (settings_of m)) (header_bytes (recorded m by))) able.sizes

  may_resume : permitted inside.stepped.machine ≡ true
  unfolding permitted opcodes_allowed entry entered_machine entry_registers
  may_resume = rw ((entered_kept (settings_of m)).opcodes, able.on, able.usable)

  fits_kept : header_fits (settings_of inside.stepped.machine) ≡ true
  unfolding entry entered_machine
  fits_kept = rw (entered_kept (settings_of m)).fits able.fits

  resume_stated : Resume m s by' inside (stepped inside.stepped.machine inside.memory (Opcode 0xaa modrm a next))
  unfolding entry entered_machine resume
  resume_stated =
      rw (rsm_resumes inside.stepped.machine inside.memory modrm a next sizes_kept refl refl may_resume fits_kept)
      (record {
        answer = refl;
        registers =
            rw (entered_kept (settings_of m)).place
            (registers_back x.management (header_place (settings_of m)) (recorded m by) (room m x able) fits
            ∙ rw (same_registers m by, one_way m by by'));
        halted = refl;
        inside =
            rw ((entered_kept (settings_of m)).place, nested_back x.management (header_place (settings_of m)) (recorded m by) (room m x able) fits)
            (back_where m by);
        latched = refl;
        segments = refl;
        config = rw (last_moves (settings_of m)).0;
        memory = refl;
      })

pub resumes_as_entered : ResumesAsEntered
resumes_as_entered m x s modrm a next f w h by =
    let e = enters m x s h in
    rw e.outcome (resume_stated m x s e.by by e.able modrm a next (recorded_fits m e.by f w))
