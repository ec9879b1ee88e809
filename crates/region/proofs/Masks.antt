-- An address without its n low bits is a given multiple of 2 ^ n exactly if it lies from the multiple on and before the next one. Assumes
-- nothing.
use mathlib.Core.Path.{◌≡◌, refl, sym, ap, subst, ◌∙◌}
use mathlib.Core.Bool.{Bool, true, false, ◌&&◌}
use Prim.Native.Nat.{ℕ, ◌+◌, ◌-◌, ◌*◌, ◌/◌, ◌%◌, ◌^◌, ◌≤◌, ◌<◌}
use native.Mathlib.Nat.{div-add-mod', mod-lt, sub-add_cancel}
use native.Mathlib.Omega.{arith}
use lib.Arith.{digits_mod}
use lib.Bits.{bit_and, and_high}
use lib.Dec.{leb, ltb, eqb}
use lib.Pow.{pow_pos, recompose}
use borrow.Author.Tests.{leb-true, leb-false, ltb-true, ltb-false, eq-eqb, ne_eqb}

-- m is the address a without its remainder by a size s, and b a multiple of that size
module _ (s m a b : ℕ) (positive : 0 < s) (sum : m + a % s ≡ a) (multiple : b % s ≡ 0) where
  same : b ≤ a → a < b + s → m ≡ b
  same l h =
      let e : b / s * s + (a - b) ≡ a = omega (arith, div-add-mod' b s) in
      let r : a % s ≡ a - b = ap (λ (x : ℕ). x % s) (sym e) ∙ digits_mod (b / s) (omega arith) in
      omega (arith, r)

  whole_is : eqb m b ≡ (leb b a && ltb a (b + s))
  whole_is = go (leb b a) (ltb a (b + s)) refl refl
    where
      go : (l h : Bool) → leb b a ≡ l → ltb a (b + s) ≡ h → eqb m b ≡ (l && h)
      go true true p q = eq-eqb m b (same (leb-true b a p) (ltb-true a _ q))
      go true false p q = ne_eqb m b (λ e. omega (arith, mod-lt a positive, ltb-false a _ q))
      go false h p q = ne_eqb m b (λ e. omega (arith, leb-false b a p))

-- a mask of w bits but the n low ones takes the remainder by 2 ^ n from an address of w bits, and no more
masked_sum : (w n a : ℕ) → n ≤ w → a < 2 ^ w → bit_and a (2 ^ w - 2 ^ n) + a % 2 ^ n ≡ a
masked_sum w n a h =
    subst (λ (x : ℕ). a < 2 ^ x → bit_and a (2 ^ x - 2 ^ n) + a % 2 ^ n ≡ a) (sub-add_cancel h)
    (λ f. ap (λ (x : ℕ). x + a % 2 ^ n) (and_high a (w - n) n) ∙ recompose (w - n) n f)

pub masked_is : (w n a b : ℕ) → n ≤ w → a < 2 ^ w → b % 2 ^ n ≡ 0 → eqb (bit_and a (2 ^ w - 2 ^ n)) b ≡ (leb b a && ltb a (b + 2 ^ n))
masked_is w n a b h f = whole_is (2 ^ n) _ a b (pow_pos n) (masked_sum w n a h f)
