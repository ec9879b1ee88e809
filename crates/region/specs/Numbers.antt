-- 01, "What the machine holds", Region, a second time, by raw numbers: what the SMAR bytes say, and which codes, bases and addresses count.
use Rattle.std.specs.Prelude.{ℕ, ◌+◌, ◌*◌, ◌/◌, ◌%◌, ◌<◌, ◌≡◌, ◌&&◌, [], ◌∷◌, map, get_or, eqb, leb, ltb}
use Rattle.region.specs.declared.Region.{Region}
use Rattle.region.specs.Region.{region_of, size_of, usable, within}

-- CDh, CEh and CFh are one number of 24 bits: the base in units of 4,096, and below it a code of four bits. No bit is lost, and none is
-- another's.
abbrev pub SmarReadBack : Type 0
SmarReadBack =
    (high middle low : ℕ)
    → let r = region_of high middle low in
    (r.base / 4096 * 16 + r.code ≡ high * 65536 + middle * 256 + low) × (r.base % 4096 ≡ 0) × (r.code < 16)

-- the sizes of the codes that a usable region has, 1 to 5; 0 stands for none
abbrev pub usable_size : ℕ → ℕ
usable_size code = get_or (0 ∷ 4096 ∷ 8192 ∷ 16384 ∷ 32768 ∷ 65536 ∷ []) code 0

-- a region is usable by its code's size, of which its base is a multiple, and has so many addresses from its base on
abbrev pub UsableBySize : Type 0
UsableBySize =
    (r : Region) (a : ℕ)
    → let size = usable_size r.code in
    (usable r ≡ (ltb 0 size && eqb (r.base % size) 0)) × (within r a ≡ (usable r && leb r.base a && ltb a (r.base + size)))

-- the bytes of all sixteen codes
abbrev pub SizesListed : Type 0
SizesListed =
    map size_of (0 ∷ 1 ∷ 2 ∷ 3 ∷ 4 ∷ 5 ∷ 6 ∷ 7 ∷ 8 ∷ 9 ∷ 10 ∷ 11 ∷ 12 ∷ 13 ∷ 14 ∷ 15 ∷ [])
    ≡ 0 ∷ 0x1000 ∷ 0x2000 ∷ 0x4000 ∷ 0x8000 ∷ 0x10000 ∷ 0x20000 ∷ 0x40000 ∷ 0x80000 ∷ 0x100000 ∷ 0x200000 ∷ 0x400000 ∷ 0x800000 ∷ 0x1000000
    ∷ 0x2000000
    ∷ 0x100000000
    ∷ []
