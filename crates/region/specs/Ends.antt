-- Regions at the end of the 32-bit address space (01, "What the machine holds", Region, and answer 5; 02, request 2).
use Rattle.std.specs.Prelude.{ℕ, ◌-◌, ◌^◌, ◌≤◌, ◌≡◌, false, ◌&&◌, leb, ltb}
use Rattle.region.specs.declared.Region.{Region}
use Rattle.region.specs.Region.{size_of, largest_code, within}

-- the first number that is no address
abbrev pub space_end : ℕ
space_end = 2 ^ 32

-- From there on no number is in a region: its base has 32 bits and is a multiple of its size. `limits` ensures it of every region that the
-- code can hold, so that nothing is asked of the base.
abbrev pub NoneAbove : Region → ℕ → Type 0
NoneAbove r a = space_end ≤ a → within r a ≡ false

-- the region of a code's size with the last address, FFFFFFFFh, as its last
abbrev pub last_region : ℕ → Region
last_region n = record { base = 0xffffffff - (size_of n - 1); code = n }

-- it is usable, and reaches from its base to the end
abbrev pub LastReaches : Type 0
LastReaches = (n a : ℕ) → 1 ≤ n → n ≤ largest_code → within (last_region n) a ≡ (leb (last_region n).base a && ltb a space_end)
