-- A run without the test of the memories' sizes, by which examples are computed: no step changes them, and to count 65,536 bytes at every step is
-- slow. Assumes nothing.
use mathlib.Core.Path.{◌≡◌, refl, ap, ◌∙◌}
use mathlib.Core.Bool.{Bool, false, cond}
use mathlib.Core.List.{List, [], ◌∷◌}
use Rattle.std.proofs.Common.{Option, Some, None}
use Rattle.memory.specs.Memory.{Memories}
use Rattle.steps.specs.declared.Answer.{Answer}
use Rattle.steps.specs.declared.Answer.TheVariants.{Malformed, WhileHalted}
use Rattle.steps.specs.declared.Step.{Step}
use Rattle.events.specs.Events.{event}
use Rattle.refusals.specs.Refusals.{wrong_sizes, malformed_on, program_while_halted, first_refusal}
use Rattle.machine.specs.declared.Machine.{Machine}
use Rattle.machine.specs.Outcomes.{Outcome}
use Rattle.machine.specs.Steps.{decided, stepped}
use Rattle.runs.specs.Runs.{Run, run}
use Rattle.runs.proofs.Turns.{preceded}
use Rattle.service.specs.NoMark.{serviced}
use Rattle.service.proofs.Leaving.{sizes_stay}

abbrev judged : Bool → Step → Option Answer
judged halted s = cond (malformed_on halted s) (Some Malformed) (cond (program_while_halted halted s) (Some WhileHalted) None)

unfoldable pub quickly : Machine → Memories → Step → Outcome
quickly m x s = decided m x s (judged m.halted s)

unfoldable pub quick : Machine → Memories → List Step → Run
quick m x [] = record { machine = m; memory = x; events = [] }
quick m x (s ∷ ss) =
    let o = quickly m x s in
    preceded (event s m.inside o.stepped.answer) (quick o.stepped.machine o.memory ss)

pub quickly_is : (m : Machine) (x : Memories) (s : Step) → wrong_sizes x ≡ false → stepped m x s ≡ quickly m x s
unfolding stepped first_refusal quickly
quickly_is m x s z = rw z

pub quick_is : (m : Machine) (x : Memories) (ss : List Step) → wrong_sizes x ≡ false → run m x ss ≡ quick m x ss
unfolding run quick
quick_is m x [] z = refl
quick_is m x (s ∷ ss) z =
    let o = stepped m x s in
    ap (preceded (event s m.inside o.stepped.answer)) (quick_is o.stepped.machine o.memory ss (sizes_stay m x s ∙ z))
    ∙ ap (λ (q : Outcome). preceded (event s m.inside q.stepped.answer) (quick q.stepped.machine q.memory ss)) (quickly_is m x s z)

sizes_run : (m : Machine) (x : Memories) (ss : List Step) → wrong_sizes (run m x ss).memory ≡ wrong_sizes x
unfolding run
sizes_run m x [] = refl
sizes_run m x (s ∷ ss) = let o = stepped m x s in sizes_run o.stepped.machine o.memory ss ∙ sizes_stay m x s

-- ---- a service, and a step after it

abbrev pub fast : Machine → Memories → Step → List Step → Run
fast m x s ss = let e = quickly m x s in quick e.stepped.machine e.memory ss

module _ (m : Machine) (x : Memories) (s : Step) (z : wrong_sizes x ≡ false) where
  pub fast_is : (ss : List Step) → serviced m x s ss ≡ fast m x s ss
  fast_is ss =
      let e = stepped m x s in
      quick_is e.stepped.machine e.memory ss (sizes_stay m x s ∙ z)
      ∙ ap (λ (q : Outcome). quick q.stepped.machine q.memory ss) (quickly_is m x s z)

  pub then_is : (ss : List Step) (t : Step)
      → let r = serviced m x s ss in
      let q = fast m x s ss in
      stepped r.machine r.memory t ≡ quickly q.machine q.memory t
  then_is ss t =
      let e = stepped m x s in
      let r = serviced m x s ss in
      quickly_is r.machine r.memory t (sizes_run e.stepped.machine e.memory ss ∙ sizes_stay m x s ∙ z)
      ∙ ap (λ (q : Run). quickly q.machine q.memory t) (fast_is ss)
