-- 01, "What the machine holds", Region: what the three SMAR bytes name, when a region is usable, and which addresses are in it.
use Rattle.std.specs.Prelude.{ℕ, ◌+◌, ◌*◌, ◌/◌, ◌%◌, ◌^◌, ◌-◌, Bool, cond, ◌&&◌, eqb, leb, ltb}
use Rattle.region.specs.declared.Region.{Region}

-- the base's bits 31-12 are in CDh, CEh and the high half of CFh, the size code is in its low half
unfoldable pub region_of : ℕ → ℕ → ℕ → Region
region_of high middle low = record { base = high * 16777216 + middle * 65536 + low / 16 * 4096; code = low % 16 }

-- The bytes that a size code names: none for 0, 4,096 for 1, twice as many for each further one, and 4 GiB for 15. SMAR's code has four
-- bits, so that only 15 is above 14.
unfoldable pub size_of : ℕ → ℕ
size_of n = cond (eqb n 0) 0 (cond (leb n 14) (4096 * 2 ^ (n - 1)) 4294967296)

-- the largest code that a usable region has
abbrev pub largest_code : ℕ
largest_code = 5

-- a region has a size that is allowed, and begins at a multiple of it; base 0 does
unfoldable pub usable : Region → Bool
usable r = leb 1 r.code && leb r.code largest_code && eqb (r.base % size_of r.code) 0

-- an address in a usable region
unfoldable pub within : Region → ℕ → Bool
within r a = usable r && leb r.base a && ltb a (r.base + size_of r.code)
