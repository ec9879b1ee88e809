-- Demand 1. Assumes nothing.
use mathlib.Core.Path.{◌≡◌, refl}
use mathlib.Core.Bool.{true, cond}
use Prim.Native.Nat.{ℕ}
use Rattle.memory.specs.Memory.{Memories}
use Rattle.steps.specs.declared.Step.{Step}
use Rattle.steps.specs.Answers.{number_of, refusal}
use Rattle.machine.specs.declared.Machine.{Machine}
use Rattle.machine.specs.Outcomes.{Outcome}
use Rattle.machine.specs.Service.{entry, resume}
use Rattle.isolation.specs.Refusals.{RefusedAsCalledFor, RefusalChangesNothing}
use Rattle.fields.proofs.Cases.{unlike}
use Rattle.isolation.proofs.Doing.{Does, step_does}

number : {m : Machine} {x : Memories} {s : Step} {o : Outcome} {n : ℕ} → Does m x s o n
    → let a = o.stepped.answer in cond (refusal a) (number_of a) 0 ≡ n
unfolding entry resume
number (Does.refuses a e) = rw e
number (Does.enters by able) = refl
number (Does.resumes by) = refl
number (Does.neither o p) = rw p.taken

same : {m : Machine} {x : Memories} {s : Step} {o : Outcome} {n : ℕ} → Does m x s o n → refusal o.stepped.answer ≡ true
    → (o.stepped.machine ≡ m) × (o.memory ≡ x)
unfolding entry resume
same (Does.refuses a e) h = (refl, refl)
same (Does.enters by able) h = unlike h refl
same (Does.resumes by) h = unlike h refl
same (Does.neither o p) h = unlike h p.taken

pub refused_as_called_for : RefusedAsCalledFor
refused_as_called_for m x s = number (step_does m x s)

pub refusal_changes_nothing : RefusalChangesNothing
refusal_changes_nothing m x s = same (step_does m x s)
