-- 01, "Trace player", and 02, request 6: the steps that a trace holds, with its groups written out in full, and why the player stops.
use Rattle.std.specs.Prelude.{◌≡◌, ℕ, zero, suc, ◌+◌, Bool, true, false, cond, List, [], ◌∷◌, ◌++◌, leb, ltb, length, take, Result, Ok, Err}
use Rattle.steps.specs.declared.Step.{Step}
use Rattle.trace.specs.declared.Found.{Found}
use Rattle.trace.specs.declared.Found.TheVariants.{Record, Group}
use Rattle.trace.specs.declared.Ending.{Ending}
use Rattle.trace.specs.Trace.{part, found_at}
use Rattle.lines.specs.declared.Reason.{Reason}
use Rattle.lines.specs.declared.Reason.TheVariants as why
use Rattle.lines.specs.Reasons.{reason_of}

-- the records after which the player stops
abbrev pub record_limit : ℕ
record_limit = 10000

-- how deep groups may stand in groups, the outermost being level one
abbrev pub group_levels : ℕ
group_levels = 8

-- the steps of a list of records, in order, and why there are no more of them
pub record Script : Type 0 where
  pub steps : List Step
  pub reason : Reason

abbrev pub stops : Reason → Script
stops r = record { steps = []; reason = r }

abbrev pub follows : Step → Script → Script
follows s rest = record { steps = s ∷ rest.steps; reason = rest.reason }

abbrev pub joins : List Step → Script → Script
joins ss rest = record { steps = ss ++ rest.steps; reason = rest.reason }

abbrev pub is_end : Reason → Bool
is_end why.End = true
is_end why.Limit = false
is_end why.Torn = false
is_end why.Bad = false

-- ---- Reading, which has no limit.

-- the steps of a list, as often as a count says
unfoldable pub repeated : ℕ → List Step → List Step
repeated zero ss = []
repeated (suc n) ss = ss ++ repeated n ss

-- A group whose list reads as h, and then the rest. A group is sound if its list reads to the end; it is bad if that is torn or bad, and
-- then none of its steps are held.
abbrev pub grouped : ℕ → Script → Script → Script
grouped count h rest = cond (is_end h.reason) (joins (repeated count h.steps) rest) (stops why.Bad)

-- what was found at a place of the list l: inner reads the list of a group, and rest what follows from a place on
abbrev pub read_by : Result (Found Step) Ending → List ℕ → (List ℕ → Script) → (ℕ → Script) → Script
read_by (Ok (Record step next)) l inner rest = follows step (rest next)
read_by (Ok (Group g)) l inner rest = grouped g.count (inner (part l g.start g.next)) (rest g.next)
read_by (Err e) l inner rest = stops (reason_of e)

-- From a place on. n bounds how many records and groups are looked for; a list has no more of them than bytes (`Unbounded` below).
unfoldable pub read_from : (List ℕ → Script) → ℕ → List ℕ → ℕ → Script
read_from inner zero l at = stops why.End
read_from inner (suc n) l at = read_by (found_at l at) l inner (read_from inner n l)

abbrev pub rest : (List ℕ → Script) → List ℕ → ℕ → Script
rest inner l at = read_from inner (length l) l at

-- the list of a group, where d levels are left, its own among them: with none left it is too deep
unfoldable pub within : ℕ → List ℕ → Script
within zero l = stops why.Bad
within (suc d) l = rest (within d) l 0

-- a trace stands above the first level
abbrev pub whole : List ℕ → Script
whole trace = rest (within group_levels) trace 0

-- Reading a list from a place on is what stands there, and then reading on: so the bound of `read_from` doesn't show.
abbrev pub Unbounded : Type 0
Unbounded = (d : ℕ) (l : List ℕ) (at : ℕ) → rest (within d) l at ≡ read_by (found_at l at) l (within d) (rest (within d) l)

-- the same where any reading of the lists of groups is given
abbrev pub ReadsOn : Type 0
ReadsOn = (inner : List ℕ → Script) (l : List ℕ) (at : ℕ) → rest inner l at ≡ read_by (found_at l at) l inner (rest inner l)

-- More levels change nothing for a list that is read to its end with fewer.
abbrev pub MoreLevels : Type 0
MoreLevels = (d more : ℕ) (l : List ℕ) → is_end (within d l).reason ≡ true → within (more + d) l ≡ within d l

-- ---- The limit, on the steps that are read.

-- whether a limit comes first: there are more steps, or as many and they don't end there
abbrev pub exceeds : ℕ → ℕ → Reason → Bool
exceeds n limit r = cond (is_end r) (ltb limit n) (leb limit n)

unfoldable pub limited : ℕ → Script → Script
limited limit h = record {
  steps = take limit h.steps;
  reason = cond (exceeds (length h.steps) limit h.reason) why.Limit h.reason;
}

-- what the player takes of a trace, and why it stops
abbrev pub script_of : List ℕ → Script
script_of trace = limited record_limit (whole trace)
