-- What the steps of a trace leave is their run. Assumes nothing.
use mathlib.Core.Path.{◌≡◌, ap, ◌∙◌}
use mathlib.Core.List.{List, [], ◌∷◌, map}
use Prim.Native.Nat.{ℕ, suc, ◌+◌}
use native.Mathlib.Numerals.{add-one}
use native.Mathlib.Omega.{arith}
use lib.ListN.{length, set}
use lib.Seq.{sets}
use Rattle.steps.specs.declared.Step.{Step}
use Rattle.memory.specs.Memory.{Memories}
use Rattle.events.specs.Events.{event, noted}
use Rattle.machine.specs.declared.Machine.{Machine}
use Rattle.machine.specs.Steps.{stepped}
use Rattle.runs.specs.Runs.{run}
use Rattle.scripts.specs.Scripts.{script_of, whole}
use Rattle.player.specs.declared.Played.{Played}
use Rattle.player.specs.Player.{playing, Plays}
use Rattle.records.specs.Stretches.{State, state, step_on, after}
use Rattle.player.specs.Walks.{Goes}

-- the steps' run
after_run : (m : Machine) (x : Memories) (count : ℕ) (events : List ℕ) (ss : List Step)
    → let r = run m x ss in
    after (state m x count events) ss ≡ state r.machine r.memory (count + length ss) (sets events count (map noted r.events))
unfolding after step_on run
after_run m x count events [] = let e : count ≡ count + 0 = omega arith in ap (λ (n : ℕ). state m x n events) e
after_run m x count events (p ∷ ps) =
    let o = stepped m x p in
    let n = noted (event p m.inside o.stepped.answer) in
    let r = run o.stepped.machine o.memory ps in
    let e : count + 1 + length ps ≡ count + suc (length ps) = omega arith in
    after_run o.stepped.machine o.memory (count + 1) (set events count n) ps
    ∙ ap (λ (k : ℕ). state r.machine r.memory (count + 1 + length ps) (sets (set events count n) k (map noted r.events))) (add-one count)
    ∙ ap (λ (k : ℕ). state r.machine r.memory k (sets (set events count n) (suc count) (map noted r.events))) e

-- a trace that is played from its start
pub plays : (l : List ℕ) (m : Machine) (x x' : Memories) (events₀ events : List ℕ) (p : Played)
    → Goes (state m x 0 events₀) (whole l) (state p.machine x' p.count events) p.reason
    → Plays (script_of l) (playing m x l) p x' events₀ events
plays l m x x' events₀ events p g =
    let e = g.state_is ∙ after_run m x 0 events₀ (script_of l).steps in
    record {
      machine_is = ap (λ (s : State). s.machine) e;
      reason_is = g.reason_is;
      leaves = record {
        count_is = ap (λ (s : State). s.count) e ∙ omega arith;
        memory_is = ap (λ (s : State). s.memory) e;
        events_are = ap (λ (s : State). s.events) e;
      };
    }
