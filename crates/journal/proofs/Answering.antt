-- How far the first free slot can be, and what a raise with all its stores is. Assumes nothing.
use mathlib.Core.Path.{◌≡◌}
use mathlib.Core.List.{List}
use Prim.Native.Nat.{ℕ, ◌≤◌}
use lib.Seq.{take_all}
use Rattle.slots.specs.Area.{slot_count, free, first_free}
use Rattle.slots.proofs.Searching.{first_most}
use Rattle.journal.specs.Stores.{stores, store_count}
use Rattle.journal.specs.Answers.{raise_of, raise_part_of}
use Rattle.journal.proofs.Bytes.{eleven}

pub first_free_most : (a : List ℕ) → first_free a ≤ slot_count
first_free_most a = first_most slot_count (free a)

-- with all its stores it is a raise
pub part_whole : (a : List ℕ) (v n : ℕ) → store_count ≤ n → raise_part_of a v n ≡ raise_of a v
unfolding raise_part_of raise_of
part_whole a v n l = rw (take_all n (stores (first_free a) v) (rw eleven l))
