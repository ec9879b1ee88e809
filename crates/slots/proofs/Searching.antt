-- What holds of every slot or of the first one. Assumes nothing.
use mathlib.Core.Path.{◌≡◌, refl, ap}
use mathlib.Core.Bool.{Bool, true, false, cond, true≢false, ◌||◌}
use Prim.Native.Nat.{ℕ, zero, suc, ◌+◌, ◌<◌, ◌≤◌}
use native.Mathlib.Omega.{arith}
use borrow.Author.Tests.{ltb-true, ltb-false}
use lib.Dec.{ltb}
use Rattle.std.proofs.lemmas.Bool.{and_parts}
use Rattle.slots.specs.Area.{every, first}

pub or_right : (x y : Bool) → x || y ≡ true → x ≡ false → y ≡ true
or_right true y e n = absurd (true≢false n)
or_right false y e n = e

-- a rule for the numbers below n, and for n, is one for those below n + 1
pub each_more : {P : ℕ → Type 0} (n : ℕ) → ((k : ℕ) → k < n → P k) → P n → (k : ℕ) → k < n + 1 → P k
each_more {P} n f x k l = by (ltb k n) refl
  where
    by : (b : Bool) → ltb k n ≡ b → P k
    by true q = f k (ltb-true k n q)
    by false q = let o = ltb-false k n q in let e : k ≡ n = omega arith in rw e x

pub every_true : (n : ℕ) (p : ℕ → Bool) → ((k : ℕ) → k < n → p k ≡ true) → every n p ≡ true
unfolding every
every_true zero p f = refl
every_true (suc n) p f = rw (every_true n p (λ k l. f k (omega arith)), f n (omega arith))

pub every_each : (n : ℕ) (p : ℕ → Bool) → every n p ≡ true → (k : ℕ) → k < n → p k ≡ true
unfolding every
every_each zero p e k l = absurd (omega arith)
every_each (suc n) p e k l =
    let parts = and_parts (every n p) (p n) e in
    each_more {P = λ k. p k ≡ true} n (every_each n p parts.0) parts.1 k (omega arith)

pub first_most : (n : ℕ) (p : ℕ → Bool) → first n p ≤ n
unfolding first
first_most zero p = omega arith
first_most (suc n) p = by (p 0) (first_most n (λ k. p (suc k)))
  where
    by : (b : Bool) → first n (λ k. p (suc k)) ≤ n → cond b 0 (suc (first n (λ k. p (suc k)))) ≤ suc n
    by true l = omega arith
    by false l = omega arith

-- it is the number below which none is, and at which one is, unless there is none
pub first-is : (n : ℕ) (p : ℕ → Bool) (m : ℕ) → m ≤ n → ((k : ℕ) → k < m → p k ≡ false) → (m < n → p m ≡ true) → first n p ≡ m
unfolding first
first-is zero p m l f t = omega arith
first-is (suc n) p zero l f t = rw (t (omega arith))
first-is (suc n) p (suc m) l f t =
    rw (f 0 (omega arith)) (ap suc (first-is n (λ k. p (suc k)) m (omega arith) (λ k o. f (suc k) (omega arith)) (λ o. t (omega arith))))

pub first_below : (n : ℕ) (p : ℕ → Bool) (k : ℕ) → k < first n p → p k ≡ false
unfolding first
first_below zero p k l = absurd (omega arith)
first_below (suc n) p k l = by (p 0) refl k l (first_below n (λ k. p (suc k)))
  where
    by : (b : Bool) → p 0 ≡ b → (k : ℕ) → k < cond b 0 (suc (first n (λ k. p (suc k))))
        → ((k : ℕ) → k < first n (λ k. p (suc k)) → p (suc k) ≡ false) → p k ≡ false
    by true q k l r = absurd (omega arith)
    by false q zero l r = q
    by false q (suc k) l r = r k (omega arith)

pub first_at : (n : ℕ) (p : ℕ → Bool) → first n p < n → p (first n p) ≡ true
unfolding first
first_at zero p l = absurd (omega arith)
first_at (suc n) p l = by (p 0) refl l (first_at n (λ k. p (suc k)))
  where
    by : (b : Bool) → p 0 ≡ b → cond b 0 (suc (first n (λ k. p (suc k)))) < suc n
        → (first n (λ k. p (suc k)) < n → p (suc (first n (λ k. p (suc k)))) ≡ true) → p (cond b 0 (suc (first n (λ k. p (suc k))))) ≡ true
    by true q l r = q
    by false q l r = r (omega arith)
