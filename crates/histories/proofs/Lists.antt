-- Lists of numbers that rise. Assumes nothing.
use mathlib.Core.Path.{◌≡◌, refl}
use mathlib.Core.Bool.{Bool, true, false}
use mathlib.Core.List.{List, [], ◌∷◌, ◌++◌}
use Prim.Native.Nat.{ℕ, zero, suc, ◌+◌, ◌<◌, ◌≤◌}
use native.Mathlib.Omega.{arith}
use borrow.Author.Tests.{ltb-true, ltb-false}
use lib.Dec.{ltb}
use lib.ListN.{length, get_or, length-append}
use Rattle.journal.specs.declared.Counter.{Counter}
use Rattle.std.specs.Prelude.{Ok}
use Rattle.histories.specs.Histories.{StrictlyRising}
use Rattle.histories.specs.Closed.{NumberIsAbove}

-- every number of a list is below b
abbrev pub AllBelow : List ℕ → ℕ → Type 0
AllBelow ns b = (i : ℕ) → i < length ns → get_or ns i 0 < b

pub below_higher : (ns : List ℕ) (b d : ℕ) → b ≤ d → AllBelow ns b → AllBelow ns d
below_higher ns b d l f i o = omega (arith, f i o)

last_front : (ns : List ℕ) (n i : ℕ) → i < length ns → get_or (ns ++ (n ∷ [])) i 0 ≡ get_or ns i 0
last_front [] n i l = absurd (omega arith)
last_front (x ∷ ns) n zero l = refl
last_front (x ∷ ns) n (suc i) l = last_front ns n i (omega arith)

last_back : (ns : List ℕ) (n : ℕ) → get_or (ns ++ (n ∷ [])) (length ns) 0 ≡ n
last_back [] n = refl
last_back (x ∷ ns) n = last_back ns n

last_length : (ns : List ℕ) (n : ℕ) → length (ns ++ (n ∷ [])) ≡ length ns + 1
last_length ns n = length-append ns (n ∷ [])

-- of an element of a list with one more: it is one of the old ones, or the last
last_by : (P : ℕ → Type 0) (ns : List ℕ) (n : ℕ) → ((i : ℕ) → i < length ns → P (get_or ns i 0)) → P n
    → (i : ℕ) → i < length (ns ++ (n ∷ [])) → P (get_or (ns ++ (n ∷ [])) i 0)
last_by P ns n f x i l = by (ltb i (length ns)) refl
  where
    by : (b : Bool) → ltb i (length ns) ≡ b → P (get_or (ns ++ (n ∷ [])) i 0)
    by true q = let o = ltb-true i (length ns) q in rw (last_front ns n i o) (f i o)
    by false q = let e : i ≡ length ns = omega (arith, ltb-false i (length ns) q, last_length ns n) in rw (e, last_back ns n) x

pub below_last : (ns : List ℕ) (n : ℕ) → AllBelow ns n → AllBelow (ns ++ (n ∷ [])) (n + 1)
below_last ns n f = last_by (λ x. x < n + 1) ns n (λ i l. omega (arith, f i l)) (omega arith)

pub rises_last : (ns : List ℕ) (n : ℕ) → AllBelow ns n → StrictlyRising ns → StrictlyRising (ns ++ (n ∷ []))
rises_last ns n f r i j l o = by (ltb j (length ns)) refl
  where
    by : (b : Bool) → ltb j (length ns) ≡ b → get_or (ns ++ (n ∷ [])) i 0 < get_or (ns ++ (n ∷ [])) j 0
    by true q = let m = ltb-true j (length ns) q in rw (last_front ns n i (omega arith), last_front ns n j m) (r i j l m)
    by false q =
        let e : j ≡ length ns = omega (arith, ltb-false j (length ns) q, last_length ns n) in
        rw (last_front ns n i (omega arith), e, last_back ns n) (f i (omega arith))

-- the last of a list that rises is above the others
pub last_above : (ns : List ℕ) (n : ℕ) (c : Counter) → StrictlyRising (ns ++ (n ∷ [])) → NumberIsAbove ns (Ok (n, c))
last_above ns n c r i l = rw (last_front ns n i l, last_back ns n) at (r i (length ns) l (omega (arith, last_length ns n)))
