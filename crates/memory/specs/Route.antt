-- What the code's places say, and the fast path, where one memory answers all bytes of an access. No public contract cites it.
use Rattle.std.specs.Prelude.{ℕ, ◌+◌, ◌≤◌, ◌<◌, ◌≡◌, Bool, false, true, Option, Some, None}
use Rattle.region.specs.Region.{within}
use Rattle.region.specs.declared.Region.{Region}
use Rattle.memory.specs.Memory.{Cell, cell_of}
use Rattle.memory.specs.declared.Place.{Place}
use Rattle.memory.specs.declared.Place.TheVariants.{Main, Management}

-- the cell at a place
abbrev pub cell_at : Place → Cell
cell_at (Main k) = Cell.InMain k
cell_at (Management k) = Cell.InManagement k

abbrev pub is_managed : Place → Bool
is_managed (Main k) = false
is_managed (Management k) = true

-- the region test of each of n addresses from a on gives t
abbrev pub Each : Region → ℕ → ℕ → Bool → Type 0
Each w a n t = (k : ℕ) → a ≤ k → k < a + n → within w k ≡ t

-- n bytes from a on are there and all in one memory: management memory where t holds, and else main memory, whose length is end
pub record Together (w : Region) (end a n : ℕ) (t : Bool) : Type 0 where
  pub each : Each w a n t
  pub from : t ≡ true → w.base ≤ a
  pub inside : t ≡ false → a + n ≤ end
  pub below : a + n ≤ 4294967296

-- what the place of an access says of its bytes; no place says nothing
abbrev pub Whole : Region → ℕ → ℕ → ℕ → Option Place → Type 0
Whole w end a n (Some p) = (cell_at p ≡ cell_of w a) × Together w end a n (is_managed p)
Whole w end a n None = Unit
