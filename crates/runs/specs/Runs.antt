-- A list of steps, each on what the one before left (demand 3; 01, "Trace player"): where it ends, and its log.
use Rattle.std.specs.Prelude.{ℕ, ◌+◌, ◌<◌, ◌≡◌, false, List, [], ◌∷◌, map, length, get_or, take}
use Rattle.memory.specs.Memory.{Memories}
use Rattle.steps.specs.declared.Answer.{Answer}
use Rattle.steps.specs.declared.Answer.TheVariants.{Done}
use Rattle.steps.specs.declared.Step.{Step}
use Rattle.steps.specs.declared.Step.TheVariants.{Wake}
use Rattle.events.specs.Events.{Event, event}
use Rattle.machine.specs.declared.Machine.{Machine}
use Rattle.machine.specs.Steps.{stepped}

-- the last machine and memories, and an event for each step, in order
pub record Run : Type 0 where
  pub machine : Machine
  pub memory : Memories
  pub events : List Event

unfoldable pub run : Machine → Memories → List Step → Run
run m x [] = record { machine = m; memory = x; events = [] }
run m x (s ∷ ss) =
    let o = stepped m x s in
    let r = run o.stepped.machine o.memory ss in
    let e = event s m.inside o.stepped.answer in
    record { machine = r.machine; memory = r.memory; events = e ∷ r.events }

abbrev pub answers_of : Run → List Answer
answers_of r = map (λ (e : Event). e.answer) r.events

-- What a run is for, said of each step by itself: the k-th is taken on what the first k left, and leaves what the first k + 1 do; its event
-- has its own answer. There is one event for each step.
pub record InTurn (m : Machine) (x : Memories) (ss : List Step) (k : ℕ) : Type 0 where
  pub left :
      let before = run m x (take k ss) in
      let after = run m x (take (k + 1) ss) in
      let o = stepped before.machine before.memory (get_or ss k Wake) in
      (after.machine ≡ o.stepped.machine) × (after.memory ≡ o.memory)
  pub noted :
      let before = run m x (take k ss) in
      let s = get_or ss k Wake in
      let o = stepped before.machine before.memory s in
      get_or (run m x ss).events k (event Wake false Done) ≡ event s before.machine.inside o.stepped.answer

abbrev pub StepsInTurn : Type 0
StepsInTurn =
    (m : Machine) (x : Memories) (ss : List Step)
    → (length (run m x ss).events ≡ length ss) × ((k : ℕ) → k < length ss → InTurn m x ss k)
