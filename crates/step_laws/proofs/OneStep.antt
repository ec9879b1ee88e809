-- Demands 1 and 2 and the lock, of one step. Assumes nothing.
use mathlib.Core.Path.{◌≡◌, refl, sym, subst}
use mathlib.Core.Bool.{Bool, true, false, cond}
use borrow.Author.Tests.{eq-eqb}
use Rattle.std.proofs.Common.{None}
use Rattle.memory.specs.Memory.{Memories}
use Rattle.steps.specs.declared.Step.{Step}
use Rattle.steps.specs.Answers.{refusal}
use Rattle.refusals.specs.Refusals.{first_refusal}
use Rattle.refusals.proofs.Laws.{by_verdict}
use Rattle.machine.specs.declared.Machine.{Machine}
use Rattle.machine.specs.Outcomes.{Outcome, gives, ends, refused}
use Rattle.machine.specs.Steps.{decided, stepped}
use Rattle.step_laws.specs.OneStep.{RefusedBy, RefusalLeaves, BoundaryPasses, LockKeeps}
use Rattle.fields.proofs.Cases.{unlike}
use Rattle.isolation.proofs.Refusals.{refused_as_called_for, refusal_changes_nothing}
use Rattle.isolation.proofs.Service.{passes_as_stated}
use Rattle.isolation.proofs.Edition.{lock_holds}

module _ (m : Machine) (x : Memories) (s : Step) where
  refusal_leaves : RefusalLeaves m x (stepped m x s)
  refusal_leaves = go (refusal (stepped m x s).stepped.answer) refl
    where
      go : (b : Bool) → refusal (stepped m x s).stepped.answer ≡ b
          → stepped m x s ≡ cond b (refused m x (stepped m x s).stepped.answer) (stepped m x s)
      go true e =
          let k = refusal_changes_nothing m x s e in
          λ i. ends (gives (k.0 i) (stepped m x s).stepped.answer) (k.1 i)
      go false e = refl

  -- a step that isn't refused is allowed
  allowed : refusal (stepped m x s).stepped.answer ≡ false → first_refusal m.halted x s ≡ None
  unfolding stepped
  allowed =
      by_verdict m.halted x s (λ v. refusal (decided m x s v).stepped.answer ≡ false → v ≡ None)
      (λ k h. unlike refl h) (λ k h. unlike refl h) (λ k h. unlike refl h) (λ t h. refl)

  boundary_passes : BoundaryPasses m x s (stepped m x s)
  boundary_passes smi current i e taken other =
      let k = subst (λ (t : Step). first_refusal m.halted x t ≡ None) e (allowed taken) in
      rw e (passes_as_stated m x smi current i k (rw e at other))

  lock_keeps : LockKeeps m s (stepped m x s)
  lock_keeps outside lock = lock_holds m x s outside (eq-eqb _ 1 lock)

  -- an outcome of the code is the rule's
  abbrev Made : Outcome → Type 0
  Made o = RefusedBy m x s o × (RefusalLeaves m x o × (BoundaryPasses m x s o × LockKeeps m s o))

  pub made : (o : Outcome) → o ≡ stepped m x s → Made o
  made o e = subst Made (sym e) (refused_as_called_for m x s, (refusal_leaves, (boundary_passes, lock_keeps)))
