-- Facts of each of so many numbers, by one test. Assumes nothing.
use mathlib.Core.Path.{◌≡◌, refl}
use mathlib.Core.Bool.{Bool, true, ◌&&◌, and-eq-true_iff}
use mathlib.Core.List.{List, [], ◌∷◌, map}
use Prim.Native.Nat.{ℕ, zero, suc, ◌<◌}
use native.Mathlib.Omega.{arith}
use lib.Dec.{eqb}
use lib.ListN.{get_or}
use borrow.Author.Tests.{eqb-true}

-- a test of each number below n
abbrev pub every : ℕ → (ℕ → Bool) → Bool
every zero f = true
every (suc n) f = f 0 && every n (λ i. f (suc i))

pub each : (n : ℕ) (f : ℕ → Bool) → every n f ≡ true → (i : ℕ) → i < n → f i ≡ true
each zero f h i l = absurd (omega arith)
each (suc n) f h zero l = ((and-eq-true_iff _ _).0 h).0
each (suc n) f h (suc i) l = each n (λ i. f (suc i)) ((and-eq-true_iff (f 0) _).0 h).1 i (omega arith)

-- two functions agree below n
abbrev pub agree : (ℕ → ℕ) → (ℕ → ℕ) → ℕ → Bool
agree f g n = every n (λ i. eqb (f i) (g i))

pub agree_each : (f g : ℕ → ℕ) (n : ℕ) → agree f g n ≡ true → (i : ℕ) → i < n → f i ≡ g i
agree_each f g n h i l = eqb-true (f i) (g i) (each n (λ i. eqb (f i) (g i)) h i l)

-- a fact of each, given one by one
abbrev pub Each : (ℕ → Type 0) → ℕ → Type 0
Each P zero = Unit {0}
Each P (suc n) = P 0 × Each (λ i. P (suc i)) n

pub below : (P : ℕ → Type 0) (n : ℕ) → Each P n → (i : ℕ) → i < n → P i
below P zero h i l = absurd (omega arith)
below P (suc n) h zero l = h.0
below P (suc n) h (suc i) l = below (λ i. P (suc i)) n h.1 i (omega arith)

-- an element of a list that a function is applied to
pub get_d_map : {A B : Type 0} (f : A → B) (l : List A) (d : A) (i : ℕ) → get_or (map f l) i (f d) ≡ f (get_or l i d)
get_d_map f [] d i = refl
get_d_map f (a ∷ l) d zero = refl
get_d_map f (a ∷ l) d (suc i) = get_d_map f l d i
