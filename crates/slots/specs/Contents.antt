-- What `read` gives of an area, and what the private functions under it go by.
use Rattle.std.specs.Prelude.{ℕ, Bool, cond, ◌&&◌, ◌||◌, List, eqb, ltb, Result, Ok, Err}
use Rattle.slots.specs.declared.Taken.{Taken}
use Rattle.slots.specs.declared.Malformed.{Malformed}
use Rattle.slots.specs.Area.{kind_of, ceiling_of, taken_kind, taken, well_formed, first_free, ceiling_before, ceiling}

-- so many slots are taken, and the last ceiling; or none of the two
abbrev pub found : ℕ → ℕ → Taken
found n c = record { count = n; ceiling = c }

abbrev pub malformed : Malformed
malformed = record {}

-- how many slots are taken and the last ceiling, of a well-formed area
unfoldable pub contents_of : List ℕ → Result Taken Malformed
contents_of a = cond (well_formed a) (Ok (found (first_free a) (ceiling a))) (Err malformed)

-- slot k is taken, has kind 1, and holds more than the slot before it, if there is one
unfoldable pub continues : List ℕ → ℕ → Bool
continues a k = taken a k && eqb (kind_of a k) taken_kind && (eqb k 0 || ltb (ceiling_before a k) (ceiling_of a k))
