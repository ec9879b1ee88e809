-- What every step does: it is refused, it enters, it resumes, or none of these. Demands 1 and 2 both read it off. Assumes nothing.
use mathlib.Core.Path.{◌≡◌, refl}
use mathlib.Core.Bool.{Bool, true, false, cond, not, ◌&&◌, ◌||◌, and-false, and-eq-true_iff}
use Prim.Native.Nat.{ℕ}
use lib.Dec.{eqb}
use Rattle.std.proofs.Common.{Option}
use Rattle.region.specs.Region.{usable}
use Rattle.memory.specs.Memory.{Memories, Reached, all_there, there, reads, writes}
use Rattle.steps.specs.declared.Answer.{Answer}
use Rattle.steps.specs.declared.Answer.TheVariants.{WrongSize, Malformed, WhileHalted, Invalid, Absent}
use Rattle.steps.specs.declared.Step.{Step}
use Rattle.steps.specs.declared.Step.TheVariants.{Reset, Registers, Read, Write, PortRead, PortWrite, Opcode, Boundary, MalformedBoundary, Halt, Wake}
use Rattle.steps.specs.declared.Interruption.{Interruption}
use Rattle.steps.specs.Answers.{number_of, refusal}
use Rattle.refusals.specs.Refusals.{wrong_sizes, malformed_on, program_while_halted, first_refusal}
use Rattle.refusals.proofs.Laws.{Taken}
use Rattle.settings.specs.Settings.{use_smi, region_in, header_fits, enabled, opcodes_allowed, smac}
use Rattle.settings_laws.proofs.Place.{enabled_has}
use Rattle.nesting.specs.Nesting.{nestable, takes}
use Rattle.opcodes.specs.declared.Operation.{Operation}
use Rattle.opcodes.specs.declared.Operation.TheVariants.{Save, Restore, Rdshr, Wrshr, Smint, Rsm, Undefined}
use Rattle.opcodes.specs.Decode.{operation_of, operand_size}
use Rattle.header.specs.Header.{level_number}
use Rattle.machine.specs.declared.Machine.{Machine}
use Rattle.machine.specs.Machines.{settings_of, edition_of}
use Rattle.machine.specs.Outcomes.{Outcome, gives, ends, refused}
use Rattle.machine.specs.Service.{entry, taken, boundary_step, resume}
use Rattle.machine.specs.Steps.{window, permitted, valid, operation_on, saved, restored, smhr_stored, smhr_loaded, operated, with_operand, opcode_step, performed, decided, stepped}
use Rattle.isolation.specs.Refusals.{invalid_opcode, absent_byte, called_for}
use Rattle.isolation.specs.Service.{Entering, recorded, latch_after, Resuming}
use Rattle.isolation.specs.Service.Entering.{at_boundary, by_smint}
use Rattle.isolation.specs.Service.Resuming.{by_rsm}
use Rattle.isolation.proofs.Answers.{Plain, plain, read_keeps, write_keeps, passes}
use Rattle.fields.proofs.Cases.{both, across, either, unlike}
use Rattle.isolation.proofs.Nesting.{takes_where}

-- what holds wherever a step enters
pub record Able (m : Machine) (x : Memories) : Type 0 where
  pub sizes : wrong_sizes x ≡ false
  pub on : use_smi (settings_of m) ≡ true
  pub usable : usable (region_in (settings_of m)) ≡ true
  pub fits : header_fits (settings_of m) ≡ true

-- an outcome of the step s from m and x, and the number that it is refused by, or 0
pub data Does (m : Machine) (x : Memories) (s : Step) : Outcome → ℕ → Type 0 where
  refuses : (a : Answer) → refusal a ≡ true → Does m x s (refused m x a) (number_of a)
  enters : (by : Entering m s) → Able m x → Does m x s (entry m x (recorded m by) (latch_after m by)) 0
  resumes : Resuming m s → Does m x s (ends (resume m x.management) x) 0
  neither : (o : Outcome) → Plain o.stepped.answer → Does m x s o 0

-- where an SMI is taken
pub taken_where : (m : Machine) (asserted : Bool) → taken m asserted ≡ true
    → (enabled (settings_of m) ≡ true) × (m.inside ≡ true → nestable (settings_of m) ≡ true) × ((asserted || m.latched) ≡ true)
unfolding taken
taken_where m asserted e =
    let p = (and-eq-true_iff (takes (settings_of m) m.inside) (asserted || m.latched)).0 e in
    let q = takes_where (settings_of m) m.inside p.0 in
    (q.0, q.1, p.1)

module _ (m : Machine) (x : Memories) where
  -- where the opcodes work there is room for a header that fits
  pub permitted_able : wrong_sizes x ≡ false → permitted m ≡ true → header_fits (settings_of m) ≡ true → Able m x
  unfolding permitted opcodes_allowed
  permitted_able z may fits =
      let t = settings_of m in
      let p = ((and-eq-true_iff (eqb (level_number m.registers.level) 0) (opcodes_allowed t m.inside)).0 may).1 in
      let q = ((and-eq-true_iff (use_smi t && usable (region_in t)) (m.inside || smac t)).0 p).0 in
      let r = (and-eq-true_iff (use_smi t) (usable (region_in t))).0 q in
      record { sizes = z; on = r.0; usable = r.1; fits = fits }

  -- a valid operation whose operand is there
  operated_does : (op modrm a next : ℕ) (o : Operation) → operation_of (edition_of m) op modrm ≡ o → wrong_sizes x ≡ false → valid m o ≡ true
      → Does m x (Opcode op modrm a next) (operated m x o a next) 0
  unfolding operated saved restored smhr_stored smhr_loaded resume valid
  operated_does op modrm a next (Save name) d z e = Does.neither _ (plain refl refl refl)
  operated_does op modrm a next (Restore name) d z e = Does.neither _ (plain refl refl refl)
  operated_does op modrm a next Rdshr d z e = Does.neither _ (plain refl refl refl)
  operated_does op modrm a next Wrshr d z e = Does.neither _ (plain refl refl refl)
  operated_does op modrm a next Smint d z e =
      let may = (and-eq-true_iff (permitted m) (not m.inside && header_fits (settings_of m))).0 e in
      Does.enters (by_smint d e) (permitted_able z may.0 ((and-eq-true_iff (not m.inside) _).0 may.1).1)
  operated_does op modrm a next Rsm d z e = Does.resumes (by_rsm d e)
  operated_does op modrm a next Undefined d z e = unlike e (and-false (permitted m))

  enabled_able : wrong_sizes x ≡ false → enabled (settings_of m) ≡ true → Able m x
  enabled_able z e = let h = enabled_has (settings_of m) e in record { sizes = z; on = h.on; usable = h.usable; fits = h.fits }

  boundary_does : (smi current : ℕ) (i : Interruption) → wrong_sizes x ≡ false
      → Does m x (Boundary smi current i) (boundary_step m x (eqb smi 1) current i) 0
  unfolding boundary_step
  boundary_does smi current i z =
      either (λ (o : Outcome). Does m x (Boundary smi current i) o 0) (taken m (eqb smi 1))
      (λ k. let t = taken_where m (eqb smi 1) k in Does.enters (at_boundary t.0 t.1 t.2) (enabled_able z t.0))
      (λ k. Does.neither _ (passes m (eqb smi 1)).0)

  performed_does : (s : Step) → Taken m.halted x s
      → Does m x s (performed m x s) (cond (invalid_opcode m s) 4 (cond (absent_byte m x s) 5 0))
  unfolding performed reads writes opcode_step operation_on with_operand operated all_there malformed_on
  performed_does Reset t = Does.neither _ (plain refl refl refl)
  performed_does (Registers eip eflags cr0 dr7 selector descriptor level writable) t = Does.neither _ (plain refl refl refl)
  performed_does (Read width a) t =
      across (λ (r : Answer) (n : ℕ). Does m x (Read width a) (ends (gives m r) x) n) (there (window m) x a width)
      (λ k. Does.neither _ (plain refl refl refl)) (λ k. Does.refuses Absent refl)
  performed_does (Write width a v) t =
      across (λ (r : Reached) (n : ℕ). Does m x (Write width a v) (ends (gives m r.answer) r.memory) n) (there (window m) x a width)
      (λ k. Does.neither _ (plain refl refl refl)) (λ k. Does.refuses Absent refl)
  performed_does (PortRead port) t = Does.neither _ (read_keeps m.config port).0
  performed_does (PortWrite port v) t = Does.neither _ (write_keeps m.config port v m.inside).0
  performed_does (Opcode op modrm a next) t =
      let o = operation_of (edition_of m) op modrm in
      across (λ (q : Operation) (n : ℕ). Does m x (Opcode op modrm a next) (with_operand m x q a next) n) (valid m o)
      (λ k. across (Does m x (Opcode op modrm a next)) (there (window m) x a (operand_size o))
      (λ l. operated_does op modrm a next o refl t.sizes k) (λ l. Does.refuses Absent refl))
      (λ k. Does.refuses Invalid refl)
  performed_does (Boundary smi current i) t = boundary_does smi current i t.sizes
  performed_does MalformedBoundary t = unlike refl t.formed
  performed_does Halt t = Does.neither _ (plain refl refl refl)
  performed_does Wake t = Does.neither _ (plain refl refl refl)

  pub step_does : (s : Step) → Does m x s (stepped m x s) (called_for m x s)
  unfolding stepped called_for first_refusal
  step_does s =
      let P : Option Answer → ℕ → Type 0 = λ v n. Does m x s (decided m x s v) n in
      both P (wrong_sizes x) (λ h. Does.refuses WrongSize refl)
      (λ h. both P (malformed_on m.halted s) (λ k. Does.refuses Malformed refl)
      (λ k. both P (program_while_halted m.halted s) (λ l. Does.refuses WhileHalted refl)
      (λ l. performed_does s (record { sizes = h; formed = k; awake = l }))))
