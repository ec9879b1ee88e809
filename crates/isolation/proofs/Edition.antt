-- What every step keeps of the edition and of the locked settings, and what the later core doesn't do without SMHR. Assumes nothing.
use mathlib.Core.Path.{◌≡◌, refl, sym, ap, subst, ◌∙◌}
use mathlib.Core.Bool.{Bool, true, false, true≢false, not, ◌&&◌, and-eq-true_iff}
use Prim.Native.Nat.{ℕ}
use lib.Dec.{eqb}
use Rattle.memory.specs.declared.Segment.{Segment}
use Rattle.memory.specs.Memory.{Memories, there}
use Rattle.steps.specs.declared.Step.{Step}
use Rattle.steps.specs.declared.Step.TheVariants.{Reset, Registers, Read, Write, PortRead, PortWrite, Opcode, Boundary, MalformedBoundary, Halt, Wake}
use Rattle.steps.specs.Answers.{number_of}
use Rattle.refusals.proofs.Laws.{by_verdict}
use Rattle.settings.specs.declared.Settings.{Settings}
use Rattle.settings.specs.Settings.{smi_lock, header_fits, with_smhr, SameLocked}
use Rattle.settings_laws.proofs.Lock.{locked_refl}
use Rattle.settings_laws.proofs.Place.{fits_never, enabled_has}
use Rattle.config.specs.declared.Config.{Config}
use Rattle.header.specs.declared.Saved.{Saved}
use Rattle.segments.specs.declared.SegmentName.{SegmentName}
use Rattle.opcodes.specs.declared.Operation.{Operation}
use Rattle.opcodes.specs.declared.Operation.TheVariants.{Save, Restore, Rdshr, Wrshr, Smint, Rsm, Undefined}
use Rattle.opcodes.specs.Decode.{operation_of, operand_size, allowed}
use Rattle.machine.specs.declared.Machine.{Machine}
use Rattle.machine.specs.declared.Stepped.{Stepped}
use Rattle.machine.specs.Machines.{settings_of, edition_of, with_segment, reset_machine}
use Rattle.machine.specs.Outcomes.{Outcome, ends}
use Rattle.machine.specs.Service.{entered_machine, entry, taken, passed, boundary_step, resume}
use Rattle.machine.specs.Steps.{window, permitted, valid, operation_on, saved, restored, smhr_stored, smhr_loaded, operated, with_operand, opcode_step, performed, decided, stepped}
use Rattle.isolation.specs.Service.{Entering, Resuming}
use Rattle.isolation.specs.Editions.{EditionStays, LockHolds, NoService}
use Rattle.isolation.proofs.Answers.{read_keeps, write_keeps}
use Rattle.fields.proofs.Cases.{either, unlike}
use Rattle.segments.proofs.Names.{by_name}
use Rattle.isolation.proofs.Nesting.{entered_kept, resumed_kept}
use Rattle.isolation.proofs.Service.{enters_as_stated, resumes_as_stated}

-- ---- the edition, and what the lock covers

record Keeps (m : Machine) (s : Step) (o : Outcome) : Type 0 where
  edition : edition_of o.stepped.machine ≡ edition_of m
  locked : m.inside ≡ false → smi_lock (settings_of m) ≡ true → (s ≡ Reset → ⊥) → (number_of o.stepped.answer ≡ 11 → ⊥)
      → SameLocked (settings_of o.stepped.machine) (settings_of m)

-- the second of two that are true
last : (p q : Bool) → (p && q) ≡ true → q ≡ true
last p q e = ((and-eq-true_iff p q).0 e).1

segment_keeps : (m : Machine) (x : Segment) (name : SegmentName) → settings_of (with_segment m name x) ≡ settings_of m
segment_keeps m x = by_name (λ n. settings_of (with_segment m n x) ≡ settings_of m) refl refl refl refl refl refl refl refl

-- WRSHR is not valid outside the mode under the lock
wrshr_locked : (m : Machine) → valid m Wrshr ≡ true → m.inside ≡ false → smi_lock (settings_of m) ≡ true → ⊥
unfolding valid
wrshr_locked m v outside lock = true≢false (sym (last (permitted m) (allowed (settings_of m) m.inside Wrshr) v) ∙ rw (outside, lock))

-- nor is RSM at all
rsm_inside : (m : Machine) → valid m Rsm ≡ true → m.inside ≡ true
unfolding valid
rsm_inside m v = ((and-eq-true_iff m.inside (header_fits (settings_of m))).0 (last (permitted m) (allowed (settings_of m) m.inside Rsm) v)).0

module _ (m : Machine) (x : Memories) (s : Step) where
  -- the same settings
  same : (o : Outcome) → settings_of o.stepped.machine ≡ settings_of m → Keeps m s o
  same o e = record {
    edition = ap (λ (t : Settings). t.edition) e;
    locked = λ outside lock none other. subst (λ (t : Settings). SameLocked t (settings_of m)) (sym e) locked_refl;
  }

  -- entry, which the lock's hold leaves out
  entry_keeps : (r : Saved) (latched : Bool) → Keeps m s (entry m x r latched)
  unfolding entry entered_machine
  entry_keeps r latched = record { edition = (entered_kept (settings_of m)).edition; locked = λ outside lock none other. absurd (other refl) }

  operated_keeps : (o : Operation) (a next : ℕ) → valid m o ≡ true → Keeps m s (operated m x o a next)
  unfolding operated saved restored smhr_stored smhr_loaded with_smhr resume
  operated_keeps (Save name) a next v = same _ refl
  operated_keeps (Restore name) a next v = same _ (segment_keeps m _ name)
  operated_keeps Rdshr a next v = same _ refl
  operated_keeps Wrshr a next v = record { edition = refl; locked = λ outside lock none other. absurd (wrshr_locked m v outside lock) }
  operated_keeps Smint a next v = entry_keeps _ _
  operated_keeps Rsm a next v = record {
    edition = (resumed_kept (settings_of m)).edition;
    locked = λ outside lock none other. absurd (true≢false (sym (rsm_inside m v) ∙ outside));
  }
  operated_keeps Undefined a next v = same _ refl

  opcode_keeps : (op modrm a next : ℕ) → Keeps m s (opcode_step m x op modrm a next)
  unfolding opcode_step operation_on with_operand operated
  opcode_keeps op modrm a next =
      let d = operation_of (edition_of m) op modrm in
      either (λ (o : Operation). Keeps m s (with_operand m x o a next)) (valid m d)
      (λ h. either (Keeps m s) (there (window m) x a (operand_size d)) (λ k. operated_keeps d a next h) (λ k. same _ refl))
      (λ h. either (Keeps m s) (there (window m) x a 0) (λ k. same _ refl) (λ k. same _ refl))

  boundary_keeps : (asserted : Bool) → Keeps m s (ends (passed m asserted) x)
  unfolding passed
  boundary_keeps asserted =
      let P : Stepped → Type 0 = λ r. Keeps m s (ends r x) in
      either P asserted (λ h. either P m.inside (λ k. same _ refl) (λ k. same _ refl)) (λ h. same _ refl)

module _ (m : Machine) (x : Memories) where
  performed_keeps : (s : Step) → Keeps m s (performed m x s)
  unfolding performed reset_machine boundary_step
  performed_keeps Reset = record { edition = refl; locked = λ outside lock none other. absurd (none refl) }
  performed_keeps (Registers eip eflags cr0 dr7 selector descriptor level writable) = same m x _ _ refl
  performed_keeps (Read width a) = same m x _ _ refl
  performed_keeps (Write width a v) = same m x _ _ refl
  performed_keeps (PortRead port) = same m x _ _ (read_keeps m.config port).1
  performed_keeps (PortWrite port v) =
      let k = write_keeps m.config port v m.inside in
      record { edition = k.3; locked = λ outside lock none other. k.1 outside lock }
  performed_keeps (Opcode op modrm a next) = opcode_keeps m x _ op modrm a next
  performed_keeps (Boundary smi current i) =
      either (Keeps m (Boundary smi current i)) (taken m (eqb smi 1)) (λ h. entry_keeps m x _ _ _) (λ h. boundary_keeps m x _ (eqb smi 1))
  performed_keeps MalformedBoundary = same m x _ _ refl
  performed_keeps Halt = same m x _ _ refl
  performed_keeps Wake = same m x _ _ refl

  step_keeps : (s : Step) → Keeps m s (stepped m x s)
  unfolding stepped
  step_keeps s =
      by_verdict m.halted x s (λ v. Keeps m s (decided m x s v)) (λ h. same m x s _ refl) (λ h. same m x s _ refl) (λ h. same m x s _ refl)
      (λ t. performed_keeps s)

pub edition_stays : EditionStays
edition_stays m x s = (step_keeps m x s).edition

pub lock_holds : LockHolds
lock_holds m x s outside lock none =
    ((step_keeps m x s).locked outside lock none, λ h. ap (λ (c : Config). c.settings) (enters_as_stated m x s h).config)

-- ---- without SMHR

entering_fits : (m : Machine) {s : Step} → Entering m s → header_fits (settings_of m) ≡ true
unfolding valid
entering_fits m (Entering.at_boundary {smi} {current} {i} on inner asked) = (enabled_has (settings_of m) on).fits
entering_fits m (Entering.by_smint {op} {modrm} {a} {next} d v) =
    last (not m.inside) (header_fits (settings_of m)) (last (permitted m) (allowed (settings_of m) m.inside Smint) v)

pub resuming_fits : (m : Machine) {s : Step} → Resuming m s → header_fits (settings_of m) ≡ true
unfolding valid
resuming_fits m (Resuming.by_rsm {op} {modrm} {a} {next} d v) =
    last m.inside (header_fits (settings_of m)) (last (permitted m) (allowed (settings_of m) m.inside Rsm) v)

pub no_service : NoService
unfolding reset_machine
no_service = (
  λ m x s e l.
      let none = fits_never (settings_of m) e l in (
        λ h. unlike (entering_fits m (enters_as_stated m x s h).by) none,
        λ h. unlike (resuming_fits m (resumes_as_stated m x s h).by) none,
      ),
  refl,
)
