-- Where playing stands after some steps. Assumes nothing.
use mathlib.Core.Path.{◌≡◌, refl}
use mathlib.Core.List.{List, [], ◌∷◌, ◌++◌}
use Prim.Native.Nat.{ℕ, ◌+◌}
use native.Mathlib.Omega.{arith}
use lib.ListN.{length, set}
use Rattle.steps.specs.declared.Step.{Step}
use Rattle.memory.specs.Memory.{Memories}
use Rattle.events.specs.Events.{event, noted}
use Rattle.machine.specs.declared.Machine.{Machine}
use Rattle.machine.specs.declared.Stepped.{Stepped}
use Rattle.machine.specs.Outcomes.{ends}
use Rattle.machine.specs.Steps.{stepped}
use Rattle.records.specs.Stretches.{State, state, step_on, after}

-- a step that the machine has taken, and what is noted of it
pub step_on_lem : (m : Machine) (x : Memories) (count : ℕ) (events : List ℕ) (p : Step) (d : Stepped) (x' : Memories) → ends d x' ≡ stepped m x p
    → (n : ℕ) → n ≡ noted (event p m.inside d.answer)
    → state d.machine x' (count + 1) (set events count n) ≡ step_on (state m x count events) p
unfolding step_on
step_on_lem m x count events p d x' e n k = rw (k, ← e)

pub after-append : (s : State) (a b : List Step) → after s (a ++ b) ≡ after (after s a) b
unfolding after
after-append s [] b = refl
after-append s (p ∷ ps) b = after-append (step_on s p) ps b

pub after_count : (s : State) (ss : List Step) → (after s ss).count ≡ s.count + length ss
unfolding after step_on
after_count s [] = omega arith
after_count s (p ∷ ps) = omega (arith, after_count (step_on s p) ps)
