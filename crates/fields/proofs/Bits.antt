-- Tests as bits. Assumes nothing.
use mathlib.Core.Path.{◌≡◌, sym, refl}
use mathlib.Core.Bool.{Bool, true, false, not, ◌&&◌}
use Prim.Native.Nat.{ℕ, ◌*◌, ◌-◌, ◌<◌}
use native.Mathlib.Omega.{arith}
use lib.Dec.{eqb}
use borrow.Author.Tests.{eqb-true, eqb-false}
use Rattle.fields.specs.Fields.{bit}

-- the test of a bit of a number gives that bit
pub bit_of : (c : ℕ) → c < 2 → bit (eqb c 1) ≡ c
bit_of c h = go (eqb c 1) refl
  where
    go : (b : Bool) → eqb c 1 ≡ b → bit b ≡ c
    go true e = sym (eqb-true c 1 e)
    go false e = let n = eqb-false c 1 e in omega arith

pub both_bits : (p q : Bool) → bit (p && q) ≡ bit p * bit q
both_bits true q = omega arith
both_bits false q = omega arith

pub bit_not : (p : Bool) → bit (not p) ≡ 1 - bit p
bit_not true = refl
bit_not false = refl
