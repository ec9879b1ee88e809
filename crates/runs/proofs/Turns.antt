-- A run, step by step. Assumes nothing.
use mathlib.Core.Path.{◌≡◌, refl, ap}
use mathlib.Core.List.{List, [], ◌∷◌}
use Prim.Native.Nat.{ℕ, zero, suc, ◌+◌, ◌<◌}
use native.Mathlib.Omega.{arith}
use lib.ListN.{length, get_or, take, drop}
use Rattle.memory.specs.Memory.{Memories}
use Rattle.steps.specs.declared.Step.{Step}
use Rattle.steps.specs.declared.Step.TheVariants.{Wake}
use Rattle.events.specs.Events.{Event, event}
use Rattle.machine.specs.declared.Machine.{Machine}
use Rattle.machine.specs.declared.Stepped.{Stepped}
use Rattle.machine.specs.Outcomes.{ends}
use Rattle.machine.specs.Steps.{stepped}
use Rattle.runs.specs.Runs.{Run, run, InTurn, StepsInTurn}

pub one_event_each : (m : Machine) (x : Memories) (ss : List Step) → length (run m x ss).events ≡ length ss
unfolding run
one_event_each m x [] = refl
one_event_each m x (s ∷ ss) = let o = stepped m x s in ap suc (one_event_each o.stepped.machine o.memory ss)

in_turn : (m : Machine) (x : Memories) (ss : List Step) (k : ℕ) → k < length ss → InTurn m x ss k
unfolding run
in_turn m x [] k h = absurd (omega arith)
in_turn m x (s ∷ ss) zero h = record { left = (refl, refl); noted = refl }
in_turn m x (s ∷ ss) (suc k) h =
    let o = stepped m x s in
    let t = in_turn o.stepped.machine o.memory ss k (omega arith) in
    let e : suc k + 1 ≡ suc (k + 1) = omega arith in
    record { left = rw e t.left; noted = t.noted }

pub steps_in_turn : StepsInTurn
steps_in_turn m x ss = (one_event_each m x ss, in_turn m x ss)

-- a run of one step more
abbrev pub preceded : Event → Run → Run
preceded e r = record { machine = r.machine; memory = r.memory; events = e ∷ r.events }

pub run_step : (m : Machine) (x x' : Memories) (s : Step) (ss : List Step) (d : Stepped) → ends d x' ≡ stepped m x s
    → run m x (s ∷ ss) ≡ preceded (event s m.inside d.answer) (run d.machine x' ss)
unfolding run
run_step m x x' s ss d e = rw (← e)

-- a run goes on from what its first k steps and the next one have left
pub goes_on : (m : Machine) (x : Memories) (ss : List Step) (k : ℕ) → k < length ss
    → let before = run m x (take k ss) in
    let o = stepped before.machine before.memory (get_or ss k Wake) in
    (run m x ss).machine ≡ (run o.stepped.machine o.memory (drop (k + 1) ss)).machine
unfolding run
goes_on m x [] k h = absurd (omega arith)
goes_on m x (s ∷ ss) zero h = refl
goes_on m x (s ∷ ss) (suc k) h =
    let o = stepped m x s in
    let e : suc k + 1 ≡ suc (k + 1) = omega arith in
    rw e (goes_on o.stepped.machine o.memory ss k (omega arith))
