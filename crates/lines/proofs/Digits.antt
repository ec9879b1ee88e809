-- The digits of a number, by how many it has. Assumes nothing.
use mathlib.Core.Path.{◌≡◌, sym, ap, ◌∙◌}
use mathlib.Core.List.{List, [], ◌∷◌, ◌++◌, append_assoc}
use Prim.Native.Nat.{ℕ, suc, ◌+◌, ◌-◌, ◌/◌, ◌%◌, ◌≤◌, ◌<◌}
use native.Mathlib.Omega.{arith}
use borrow.Author.Tests.{lt-ltb, le-ltb}
use lib.ListN.{length, drop, set}
use Rattle.std.proofs.lemmas.List.{drop-set}
use Rattle.lines.specs.Lines.{digit_of, decimal_of, hex_of}

module _ (n : ℕ) where
  pub one_digit : n < 10 → decimal_of 3 n ≡ digit_of n ∷ []
  unfolding decimal_of
  one_digit h = simp (lt-ltb _ _ h)

  pub two_digits : 10 ≤ n → n < 100 → decimal_of 3 n ≡ digit_of (n / 10) ∷ digit_of (n % 10) ∷ []
  unfolding decimal_of
  two_digits h k =
      let l : n / 10 < 10 = omega arith in
      simp (le-ltb _ _ h, lt-ltb _ _ l)

  pub three_digits : 100 ≤ n → n < 1000 → decimal_of 3 n ≡ digit_of (n / 100) ∷ digit_of (n / 10 % 10) ∷ digit_of (n % 10) ∷ []
  unfolding decimal_of
  three_digits h k =
      let g : 10 ≤ n = omega arith in
      let l : 10 ≤ n / 10 = omega arith in
      let m : n / 100 < 10 = omega arith in
      let e : n / 10 / 10 ≡ n / 100 = omega arith in
      simp (le-ltb _ _ g, le-ltb _ _ l, e, lt-ltb _ _ m)

-- the last of the digits that are left is put before those that stand
module _ (digits whole : List ℕ) where
  pub digit_turn : (left v d : ℕ) → 0 < left → left ≤ length digits → d ≡ digit_of (v % 16) → hex_of left v ++ drop left digits ≡ whole
      → hex_of (left - 1) (v / 16) ++ drop (left - 1) (set digits (left - 1) d) ≡ whole
  unfolding hex_of
  digit_turn left v d h k f e =
      let i : left - 1 < length digits = omega arith in
      let j : left ≡ left - 1 + 1 = omega arith in
      let n : left ≡ suc (left - 1) = omega arith in
      rw (drop-set digits (left - 1) d i, f, ← j) (sym (append_assoc (hex_of (left - 1) (v / 16)) (digit_of (v % 16) ∷ []) (drop left digits)) ∙ ap (λ (m : ℕ). hex_of m v ++ drop left digits) (sym n) ∙ e)

  pub digits_end : (left v : ℕ) → left ≤ 0 → hex_of left v ++ drop left digits ≡ whole → digits ≡ whole
  unfolding hex_of
  digits_end left v h e =
      let k : left ≡ 0 = omega arith in
      rw k at e
