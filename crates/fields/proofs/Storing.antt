-- Laws of lists that are stored in others by `sets` of lib.Seq, one element after the other from a place on. Assumes nothing.
use mathlib.Core.Path.{◌≡◌, refl, sym, ap, ◌∙◌}
use mathlib.Core.List.{List, [], ◌∷◌, ◌++◌, append_assoc}
use Prim.Native.Nat.{ℕ, suc, ◌+◌, ◌≤◌, ◌<◌}
use native.Mathlib.Nat.{add-zero}
use native.Mathlib.Omega.{arith}
use lib.ListN.{length, get_or, take, drop, set, get_or-append}
use lib.Seq.{sets, sets-eq, set_out, set_comm, get_or-set_other, get_or-append-add, take_at, length-take-le}

module _ {A : Type 0} where
  -- past the end nothing is stored
  pub sets_out : (l : List A) (at : ℕ) (xs : List A) → length l ≤ at → sets l at xs ≡ l
  sets_out l at [] h = refl
  sets_out l at (x ∷ xs) h =
      let e = set_out l at x h in
      rw e (sets_out l (suc at) xs (omega arith))

  -- two lists, the second where the first ends
  pub sets_append : (l : List A) (at : ℕ) (xs ys : List A) → sets l at (xs ++ ys) ≡ sets (sets l at xs) (at + length xs) ys
  sets_append l at [] ys = rw add-zero
  sets_append l at (x ∷ xs) ys =
      let e : suc at + length xs ≡ at + suc (length xs) = omega arith in
      sets_append (set l at x) (suc at) xs ys ∙ ap (λ (k : ℕ). sets (sets (set l at x) (suc at) xs) k ys) e

  -- a store above a list that was stored may come before it
  pub sets_set_above : (l : List A) (at : ℕ) (xs : List A) (k : ℕ) (y : A) → at + length xs ≤ k → set (sets l at xs) k y ≡ sets (set l k y) at xs
  sets_set_above l at [] k y h = refl
  sets_set_above l at (x ∷ xs) k y h =
      let e : suc at + length xs ≤ k = omega arith in
      sets_set_above (set l at x) (suc at) xs k y e ∙ ap (λ (m : List A). sets m (suc at) xs) (set_comm l at k x y (λ q. omega arith))

  -- a list that was stored at the start stands there
  pub stored_front : (l xs : List A) (n : ℕ) → n ≡ length xs → n ≤ length l → take n (sets l 0 xs) ≡ xs
  stored_front l xs n e h =
      let k : 0 + length xs ≤ length l = omega arith in
      ap (take n) (sets-eq xs l 0 k) ∙ take_at xs (drop (0 + length xs) l) n (sym e)

-- what stands below the stored bytes, at them and above
pub stored_below : (l bs : List ℕ) (at i : ℕ) → i < at → get_or (sets l at bs) i 0 ≡ get_or l i 0
stored_below l [] at i h = refl
stored_below l (b ∷ bs) at i h = stored_below (set l at b) bs (suc at) i (omega arith) ∙ get_or-set_other l at i b 0 (λ e. omega arith)

pub stored_byte : (l bs : List ℕ) (at i : ℕ) → at + length bs ≤ length l → i < length bs → get_or (sets l at bs) (at + i) 0 ≡ get_or bs i 0
stored_byte l bs at i h k =
    let n : length (take at l) ≡ at = length-take-le at l (omega arith) in
    let e : at + i ≡ length (take at l) + i = omega arith in
    rw (sets-eq bs l at h, append_assoc, e)
    (get_or-append-add (take at l) (bs ++ drop (at + length bs) l) i 0 ∙ get_or-append bs (drop (at + length bs) l) 0 i k)

pub stored_above : (l bs : List ℕ) (at i : ℕ) → at + length bs ≤ i → get_or (sets l at bs) i 0 ≡ get_or l i 0
stored_above l [] at i h = refl
stored_above l (b ∷ bs) at i h = stored_above (set l at b) bs (suc at) i (omega arith) ∙ get_or-set_other l at i b 0 (λ e. omega arith)
