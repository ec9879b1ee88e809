-- The stored bytes by the numbers of their indexes. Assumes nothing.
use mathlib.Core.Path.{◌≡◌, refl}
use mathlib.Core.Bool.{Bool, true, false, cond}
use Prim.Native.Nat.{ℕ, ◌+◌, ◌%◌}
use native.Mathlib.Omega.{arith}
use lib.Dec.{eqb}
use borrow.Author.Tests.{eqb-true}
use Rattle.std.proofs.lemmas.Bool.Decides.{nat_tests}
use Rattle.settings.specs.declared.Settings.{Settings}
use Rattle.settings.specs.Settings.{byte_of, with_byte, with_smhr, later_bits, locked_bits, sticky_bits, kept_bits}
use Rattle.settings_laws.specs.Stored.{StoredAt, ZeroElsewhere, ReadBack, SmhrStored, MasksListed}
use Rattle.settings_laws.proofs.Lock.{byte_other}

pub stored_at : StoredAt
unfolding byte_of
stored_at s = refl

-- an index that is none of the ten
abbrev Unnamed : ℕ → Type 0
Unnamed i =
    (i ≡ 193 → ⊥) × (i ≡ 195 → ⊥) × (i ≡ 205 → ⊥) × (i ≡ 206 → ⊥) × (i ≡ 207 → ⊥) × (i ≡ 234 → ⊥) × (i ≡ 176 → ⊥) × (i ≡ 177 → ⊥)
    × (i ≡ 178 → ⊥)
    × (i ≡ 179 → ⊥)

zero_at : (s : Settings) (i : ℕ) → Unnamed i → byte_of s i ≡ 0
unfolding byte_of
zero_at s i h = grind (arith, nat_tests)

pub zero_elsewhere : ZeroElsewhere
zero_elsewhere s k =
    rw (
      zero_at s (k % 176) (omega arith),
      zero_at s (180 + k % 13) (omega arith),
      zero_at s 194 (omega arith),
      zero_at s (196 + k % 9) (omega arith),
      zero_at s (208 + k % 26) (omega arith),
      zero_at s (235 + k) (omega arith),
    )

read_at : (s : Settings) (i j v : ℕ) (b : Bool) → eqb j i ≡ b → byte_of (with_byte s i v) j ≡ cond b (byte_of (with_byte s i v) i) (byte_of s j)
read_at s i j v true e = rw (eqb-true j i e)
read_at s i j v false e = byte_other i j v e s

pub read_back : ReadBack
unfolding byte_of with_byte
read_back s v = (refl, λ i j. read_at s i j v (eqb j i) refl, λ i. refl)

pub smhr_stored_lem : SmhrStored
unfolding byte_of with_smhr
smhr_stored_lem s v = (refl, refl)

pub masks_listed : MasksListed
unfolding locked_bits later_bits sticky_bits kept_bits
masks_listed = (refl, refl, refl, λ s i inside. grind (arith, nat_tests))
