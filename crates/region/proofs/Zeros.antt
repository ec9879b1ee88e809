-- A number has at least t trailing zeros, of k digits, exactly if 2 ^ t divides it. Assumes nothing.
use mathlib.Core.Path.{◌≡◌, refl, sym, ap, ◌∙◌}
use mathlib.Core.Bool.{Bool, true, false}
use Prim.Native.Nat.{ℕ, zero, suc, ◌+◌, ◌*◌, ◌/◌, ◌%◌, ◌^◌, ◌≤◌}
use native.Mathlib.Nat.{le_of_suc-le-suc, not-suc-le-zero, mod-one}
use native.Mathlib.Numerals.{add-one}
use native.Mathlib.Omega.{arith}
use lib.Dec.{leb, eqb, leb-zero, leb-suc-zero, leb-suc-suc}
use lib.Pow.{mod-pow-add}
use lib.Count.{count_trailing_zeros, under}
use borrow.Author.Tests.{eq-eqb, ne_eqb, eqb-true, eqb-false}

-- two tests for zero agree where each of the two numbers is zero with the other
same-zero : (b : Bool) (x y : ℕ) → eqb x 0 ≡ b → (x ≡ 0 → y ≡ 0) → (y ≡ 0 → x ≡ 0) → eqb x 0 ≡ eqb y 0
same-zero true x y e f g = e ∙ sym (eq-eqb y 0 (f (eqb-true x 0 e)))
same-zero false x y e f g = e ∙ sym (ne_eqb y 0 (λ h. eqb-false x 0 e (g h)))

split : (n t : ℕ) → n % 2 ^ suc t ≡ (n / 2 % 2 ^ t) * 2 + n % 2
split n t = ap (λ (x : ℕ). n % 2 ^ x) (sym (add-one t)) ∙ mod-pow-add n t 1

pub zeros : (t k n : ℕ) → t ≤ k → leb t (count_trailing_zeros k n) ≡ eqb (n % 2 ^ t) 0
unfolding count_trailing_zeros
zeros zero k n h = leb-zero (count_trailing_zeros k n) ∙ sym (eq-eqb (n % 1) 0 (mod-one n))
zeros (suc t) zero n h = absurd (not-suc-le-zero h)
zeros (suc t) (suc k) n h = go (n % 2) refl (zeros t k (n / 2) (le_of_suc-le-suc h))
  where
    go : (d : ℕ) → n % 2 ≡ d → leb t (count_trailing_zeros k (n / 2)) ≡ eqb (n / 2 % 2 ^ t) 0
        → leb (suc t) (under d (count_trailing_zeros k (n / 2))) ≡ eqb (n % 2 ^ suc t) 0
    go zero e ih =
        let x = n / 2 % 2 ^ t in
        leb-suc-suc t (count_trailing_zeros k (n / 2)) ∙ ih
        ∙ same-zero (eqb x 0) x (n % 2 ^ suc t) refl (λ z. omega (arith, split n t)) (λ z. omega (arith, split n t))
    go (suc d) e ih = leb-suc-zero t ∙ sym (ne_eqb (n % 2 ^ suc t) 0 (λ z. omega (arith, split n t)))
