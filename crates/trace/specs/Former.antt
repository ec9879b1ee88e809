-- The reader from before there were groups (01, "Trace player"), and that it found what it finds now.
use Rattle.std.specs.Prelude.{ℕ, ◌+◌, ◌-◌, ◌≡◌, cond, List, take, drop, Result, Ok, Err}
use Rattle.steps.specs.declared.Step.{Step}
use Rattle.trace.specs.declared.Found.{Found}
use Rattle.trace.specs.declared.Found.TheVariants.{Record, Group}
use Rattle.trace.specs.declared.Ending.{Ending}
use Rattle.trace.specs.declared.Ending.TheVariants.{End, Torn, Bad}
use Rattle.trace.specs.Trace.{length_at, kind_at, past_at, record_of, ended, torn, short, found_at}

-- the reader, to which kind 16 was unknown
unfoldable pub former_found : List ℕ → ℕ → Result (Found Step) Ending
former_found l at =
    cond (ended l at) (Err End)
    (cond (torn l at) (Err Torn)
    (cond (short l at) (Err Bad)
    (record_of (kind_at l at) (take (length_at l at - 2) (drop (at + 4) l)) (past_at l at))))

-- a group was bad, and all else is found as it was
abbrev pub ungrouped : Result (Found Step) Ending → Result (Found Step) Ending
ungrouped (Ok (Record step next)) = Ok (Record step next)
ungrouped (Ok (Group g)) = Err Bad
ungrouped (Err e) = Err e

abbrev pub FoundAsFormerly : Type 0
FoundAsFormerly = (l : List ℕ) (at : ℕ) → former_found l at ≡ ungrouped (found_at l at)
