-- The stored bytes a second time, by the raw numbers of their indexes (01, "What the machine holds", "Port read or write" and "Lock"; 02, requests 1
-- and 7).
use Rattle.std.specs.Prelude.{ℕ, ◌+◌, ◌*◌, ◌/◌, ◌%◌, ◌≡◌, Bool, cond, List, [], ◌∷◌, map, eqb}
use Rattle.settings.specs.declared.Edition.TheVariants.{Cx486, Mii}
use Rattle.settings.specs.declared.Settings.{Settings}
use Rattle.settings.specs.Settings.{byte_of, with_byte, with_smhr, locked_bits, sticky_bits, kept_bits}

-- the ten indexes that name a byte: SMHR at B0h to B3h, CCR1 at C1h, CCR3 at C3h, SMAR at CDh to CFh, CCR6 at EAh
abbrev pub named : List ℕ
named = 176 ∷ 177 ∷ 178 ∷ 179 ∷ 193 ∷ 195 ∷ 205 ∷ 206 ∷ 207 ∷ 234 ∷ []

-- the ten bytes in that order, where SMHR's four are given
abbrev pub ten_bytes : Settings → ℕ → ℕ → ℕ → ℕ → List ℕ
ten_bytes s a b c d = a ∷ b ∷ c ∷ d ∷ s.ccr1 ∷ s.ccr3 ∷ s.high ∷ s.middle ∷ s.low ∷ s.ccr6 ∷ []

-- each is read at its index
abbrev pub StoredAt : Type 0
StoredAt = (s : Settings) → map (byte_of s) named ≡ ten_bytes s s.smhr0 s.smhr1 s.smhr2 s.smhr3

-- every other index reads 0: those below B0h, in the four gaps, and from EBh on
abbrev pub ZeroElsewhere : Type 0
ZeroElsewhere =
    (s : Settings) (k : ℕ)
    → map (byte_of s) ((k % 176) ∷ (180 + k % 13) ∷ 194 ∷ (196 + k % 9) ∷ (208 + k % 26) ∷ (235 + k) ∷ []) ≡ 0 ∷ 0 ∷ 0 ∷ 0 ∷ 0 ∷ 0 ∷ []

-- a byte that is stored is read back at the ten, and moves nothing at any other index, nor the edition
abbrev pub ReadBack : Type 0
ReadBack =
    (s : Settings) (v : ℕ)
    → (map (λ (i : ℕ). byte_of (with_byte s i v) i) named ≡ map (λ (i : ℕ). v) named)
    × ((i j : ℕ) → byte_of (with_byte s i v) j ≡ cond (eqb j i) (byte_of (with_byte s i v) i) (byte_of s j))
    × ((i : ℕ) → (with_byte s i v).edition ≡ s.edition)

-- WRSHR's number is stored low byte first, and moves nothing else
abbrev pub SmhrStored : Type 0
SmhrStored =
    (s : Settings) (v : ℕ)
    → (map (byte_of (with_smhr s v)) named ≡ ten_bytes s (v % 256) (v / 256 % 256) (v / 65536 % 256) (v / 16777216 % 256))
    × ((with_smhr s v).edition ≡ s.edition)

-- the masks of the lock at the ten, outside in either edition and inside, and that CCR3's lowest bit alone puts them on
abbrev pub MasksListed : Type 0
MasksListed =
    (map (locked_bits Cx486) named ≡ 0 ∷ 0 ∷ 0 ∷ 0 ∷ 14 ∷ 3 ∷ 255 ∷ 255 ∷ 255 ∷ 0 ∷ [])
    × (map (locked_bits Mii) named ≡ 255 ∷ 255 ∷ 255 ∷ 255 ∷ 14 ∷ 3 ∷ 255 ∷ 255 ∷ 255 ∷ 65 ∷ [])
    × (map sticky_bits named ≡ 0 ∷ 0 ∷ 0 ∷ 0 ∷ 0 ∷ 1 ∷ 0 ∷ 0 ∷ 0 ∷ 0 ∷ [])
    × ((s : Settings) (i : ℕ) (inside : Bool) → kept_bits s i inside ≡ s.ccr3 % 2 * cond inside (sticky_bits i) (locked_bits s.edition i))
