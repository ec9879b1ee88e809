-- The rule from before there were groups (01, "Trace player"), and that nothing else moved. That the reader under it found what it finds now
-- is in trace/specs/Former.
use Rattle.std.specs.Prelude.{◌≡◌, ℕ, zero, suc, cond, List, [], ◌∷◌, Result, Ok, Err}
use Rattle.trace.specs.declared.Found.{Found}
use Rattle.trace.specs.declared.Found.TheVariants.{Record, Group}
use Rattle.trace.specs.declared.Ending.{Ending}
use Rattle.steps.specs.declared.Step.{Step}
use Rattle.trace.specs.Trace.{ended, found_at}
use Rattle.lines.specs.declared.Reason.TheVariants as why
use Rattle.lines.specs.Reasons.{reason_of}
use Rattle.scripts.specs.Scripts.{record_limit, group_levels, Script, stops, follows, within, rest, limited, script_of}

-- what was found at a place: a record's step, and then what the rest holds, or the reason to stop; at a group, what is given
abbrev pub former_by : Result (Found Step) Ending → (ℕ → Script) → Script → Script
former_by (Ok (Record step next)) after group = follows step (after next)
former_by (Ok (Group g)) after group = group
former_by (Err e) after group = stops (reason_of e)

-- From a place on, with n records left up to the limit. The end is tested first, then the limit, and then whether a record is torn or bad.
-- For a group it is given what comes of it, by the records left and its place.
unfoldable pub former_from : (ℕ → ℕ → Script) → ℕ → List ℕ → ℕ → Script
former_from group zero l at = stops (cond (ended l at) why.End why.Limit)
former_from group (suc n) l at = former_by (found_at l at) (former_from group n l) (group (suc n) at)

-- a group was bad
abbrev pub formerly : List ℕ → Script
formerly trace = former_from (λ n at. stops why.Bad) record_limit trace 0

-- Up to the first group the rule of now is the rule of then, for every trace; from the group on it is the reading, up to what is left of
-- the limit.
abbrev pub UpToGroups : Type 0
UpToGroups = (trace : List ℕ) → script_of trace ≡ former_from (λ n at. limited n (rest (within group_levels) trace at)) record_limit trace 0

-- a trace in which no group is met: it makes no difference what comes of one
abbrev pub Groupless : List ℕ → Type 0
Groupless trace = (group : ℕ → ℕ → Script) → former_from group record_limit trace 0 ≡ formerly trace

-- there nothing moved
abbrev pub SameAsFormerly : Type 0
SameAsFormerly = (trace : List ℕ) → Groupless trace → script_of trace ≡ formerly trace

-- an example of such a trace: one record, a wake
abbrev pub one_wake : List ℕ
one_wake = 2 ∷ 0 ∷ 10 ∷ 0 ∷ []
