-- How playing goes on from where it stands, by the records of a list up to a group (02, request 6) or a reason to stop (01, "Trace player").
use Rattle.std.specs.Prelude.{◌≡◌, ℕ, zero, suc, ◌+◌, ◌-◌, Bool, cond, ◌&&◌, List, [], ◌∷◌, leb, set, Result, Ok, Err}
use Rattle.steps.specs.declared.Step.{Step}
use Rattle.memory.specs.Memory.{Memories}
use Rattle.events.specs.Events.{event, noted}
use Rattle.machine.specs.declared.Machine.{Machine}
use Rattle.machine.specs.Steps.{stepped}
use Rattle.trace.specs.declared.Group.{Group}
use Rattle.trace.specs.declared.Found.{Found}
use Rattle.trace.specs.declared.Found.TheVariants as found
use Rattle.trace.specs.declared.Ending.{Ending}
use Rattle.trace.specs.Trace.{ended, found_at}
use Rattle.lines.specs.declared.Reason.{Reason}
use Rattle.lines.specs.declared.Reason.TheVariants as why
use Rattle.lines.specs.Reasons.{reason_of}
use Rattle.scripts.specs.Scripts.{record_limit}

-- where playing stands: the machine, the memories, the records done, and the list in which they are noted
pub record State : Type 0 where
  pub machine : Machine
  pub memory : Memories
  pub count : ℕ
  pub events : List ℕ

abbrev pub state : Machine → Memories → ℕ → List ℕ → State
state m x count events = record { machine = m; memory = x; count = count; events = events }

-- after one step more
unfoldable pub step_on : State → Step → State
step_on s p =
    let o = stepped s.machine s.memory p in
    let e = event p s.machine.inside o.stepped.answer in
    state o.stepped.machine o.memory (s.count + 1) (set s.events s.count (noted e))

unfoldable pub after : State → List Step → State
after s [] = s
after s (p ∷ ps) = after (step_on s p) ps

-- A list's records from a place on up to a group or a reason to stop, where left rounds are not done, the present one among them: their
-- steps, no more than n, the rounds that are then not done, and what ended them.
pub record Stretch : Type 0 where
  pub steps : List Step
  pub left : ℕ
  pub stop : Result Group Reason

abbrev pub stopped : ℕ → Result Group Reason → Stretch
stopped left stop = record { steps = []; left = left; stop = stop }

-- past the list's end the next round begins, and with the last one it is over
abbrev pub over : List ℕ → ℕ → ℕ → Bool
over l at left = ended l at && leb left 1

abbrev pub place_at : List ℕ → ℕ → ℕ
place_at l at = cond (ended l at) 0 at

abbrev pub left_at : List ℕ → ℕ → ℕ → ℕ
left_at l at left = cond (ended l at) (left - 1) left

-- what was found where a turn begins; the end is found there only in a list that is empty
abbrev pub stretch_by : Result (Found Step) Ending → ℕ → (ℕ → Stretch) → Stretch
stretch_by (Ok (found.Record step next)) left rest = record { steps = step ∷ (rest next).steps; left = (rest next).left; stop = (rest next).stop }
stretch_by (Ok (found.Group g)) left rest = stopped left (Ok g)
stretch_by (Err e) left rest = stopped left (Err (reason_of e))

-- with none left up to the limit, and with more: after the end, the limit is tested
unfoldable pub stretch_from : ℕ → List ℕ → ℕ → ℕ → Stretch
stretch_from zero l at left = cond (over l at left) (stopped left (Err why.End)) (stopped (left_at l at left) (Err why.Limit))
stretch_from (suc n) l at left =
    cond (over l at left) (stopped left (Err why.End))
    (stretch_by (found_at l (place_at l at)) (left_at l at left) (λ next. stretch_from n l next (left_at l at left)))

-- from s to u, by the records of a list
pub record Stretches (l : List ℕ) (at left : ℕ) (s u : State) (left' : ℕ) (stop : Result Group Reason) : Type 0 where
  pub state_is : u ≡ after s (stretch_from (record_limit - s.count) l at left).steps
  pub left_is : left' ≡ (stretch_from (record_limit - s.count) l at left).left
  pub stop_is : stop ≡ (stretch_from (record_limit - s.count) l at left).stop
