-- The bytes and the stores of a raise, one by one. Assumes nothing.
use mathlib.Core.Path.{◌≡◌, refl, sym, ap, ◌∙◌}
use mathlib.Core.Bool.{Bool, true, false, cond}
use mathlib.Core.List.{List, [], ◌∷◌, ◌++◌}
use Prim.Native.Nat.{ℕ, zero, suc, ◌+◌, ◌-◌, ◌*◌, ◌<◌, ◌≤◌, min}
use native.Mathlib.Nat.{div-div-eq-div-mul}
use native.Mathlib.Omega.{arith}
use borrow.Author.Tests.{leb-true, leb-false, eqb-true, eqb-false}
use lib.Dec.{eqb, leb}
use lib.ListN.{length, get_or, set, take, length-set, get_or-append}
use lib.Seq.{take-suc, take_all, get_or-append-add}
use Rattle.std.specs.Int.{w64, to_le_bytes}
use Rattle.fields.specs.Fields.{bytes_of}
use Rattle.fields.proofs.Laws.{length_bytes_of}
use Rattle.slots.specs.Area.{place_of, kind_field, taken_length, taken_kind}
use Rattle.journal.specs.declared.Store.{Store}
use Rattle.journal.specs.Stores.{store, upward, stores, store_count, made}

-- the bytes of a number of eight
le_bytes : (v : ℕ) → to_le_bytes w64 v ≡ bytes_of 8 v
unfolding bytes_of
le_bytes v = simp div-div-eq-div-mul

-- store i of bytes that are stored upward, whatever is stored after them
upward_at : (p : ℕ) (bs : List ℕ) (ss : List Store) (i : ℕ) → i < length bs → get_or (upward p bs ++ ss) i (store 0 0) ≡ store (p + i) (get_or bs i 0)
unfolding upward
upward_at p [] ss i l = absurd (omega arith)
upward_at p (b ∷ bs) ss zero l = let e : p + 0 ≡ p = omega arith in rw e
upward_at p (b ∷ bs) ss (suc i) l = let e : p + suc i ≡ p + 1 + i = omega arith in rw e (upward_at (p + 1) bs ss i (omega arith))

-- the kind's
pub kind_bytes : 1 ∷ 0 ∷ [] ≡ bytes_of 2 taken_kind
unfolding bytes_of
kind_bytes = refl

module _ (slot v i : ℕ) where
  abbrev ten : List ℕ
  ten = bytes_of 2 taken_kind ++ bytes_of 8 v

  ten_length : length ten ≡ 10
  unfolding bytes_of
  ten_length = refl

  abbrev at_store : Store
  at_store = get_or (stores slot v) i (store 0 0)

  first_ten : i < 10 → store (place_of slot kind_field + i) (get_or ten i 0) ≡ at_store
  unfolding stores
  first_ten l = sym (upward_at (place_of slot kind_field) ten _ i (rw ten_length l))

  pub store_kind : (bs : List ℕ) → bs ≡ bytes_of 2 taken_kind → i < 2 → store (12 * slot + 2 + i) (get_or bs i 0) ≡ at_store
  store_kind bs e l =
      ap (store (12 * slot + 2 + i)) (rw e (sym (get_or-append (bytes_of 2 taken_kind) (bytes_of 8 v) 0 i (rw length_bytes_of l))))
      ∙ first_ten (omega arith)

  pub store_ceiling : (bs : List ℕ) → bs ≡ to_le_bytes w64 v → 2 ≤ i → i < 10 → store (12 * slot + 2 + i) (get_or bs (i - 2) 0) ≡ at_store
  store_ceiling bs e m l =
      let d : length (bytes_of 2 taken_kind) + (i - 2) ≡ i = rw length_bytes_of (omega arith) in
      ap (store (12 * slot + 2 + i)) (rw (e, le_bytes v) (rw d at (sym (get_or-append-add (bytes_of 2 taken_kind) (bytes_of 8 v) (i - 2) 0))))
      ∙ first_ten l

  pub store_length : 10 ≤ i → i < store_count → store (12 * slot) taken_length ≡ at_store
  unfolding stores upward bytes_of
  store_length m l = let e : i ≡ 10 = omega arith in let z : 12 * slot + 0 ≡ 12 * slot = omega arith in rw (e, z)

pub eleven : (slot v : ℕ) → length (stores slot v) ≡ store_count
unfolding stores upward bytes_of
eleven slot v = refl

-- ---- stores that were made

pub made_more : (ss : List Store) (s : Store) (a : List ℕ) → made (ss ++ (s ∷ [])) a ≡ set (made ss a) s.at s.byte
unfolding made
made_more [] s a = refl
made_more (t ∷ ss) s a = made_more ss s (set a t.at t.byte)

pub length_made : (ss : List Store) (a : List ℕ) → length (made ss a) ≡ length a
unfolding made
length_made [] a = refl
length_made (s ∷ ss) a = length_made ss (set a s.at s.byte) ∙ length-set a s.at s.byte

pub made_none : (o : List ℕ) (slot v n : ℕ) → o ≡ made (take (min 0 n) (stores slot v)) o
unfolding made
made_none o slot v n = let e : min 0 n ≡ 0 = omega arith in rw e

-- a loop's turn: one store more, if there is power left
pub made_turn : (o a b : List ℕ) (slot v n i p : ℕ) (s : Store) → i < store_count → a ≡ made (take (min i n) (stores slot v)) o → p ≡ n - i
    → s ≡ get_or (stores slot v) i (store 0 0) → b ≡ cond (eqb p 0) a (set a s.at s.byte) → b ≡ made (take (min (i + 1) n) (stores slot v)) o
made_turn o a b slot v n i p s h e q f g = by (eqb p 0) refl
  where
    by : (x : Bool) → eqb p 0 ≡ x → b ≡ made (take (min (i + 1) n) (stores slot v)) o
    by true t =
        let z = eqb-true p 0 t in
        let m : min (i + 1) n ≡ min i n = omega arith in
        g ∙ rw (t, m) e
    by false t =
        let z = eqb-false p 0 t in
        let m : min (i + 1) n ≡ suc i = omega arith in
        let k : min i n ≡ i = omega arith in
        let l : i < length (stores slot v) = rw eleven h in
        g ∙ rw (t, f, e, k, m) (sym (rw (take-suc (stores slot v) i (store 0 0) l) (made_more (take i (stores slot v)) (get_or (stores slot v) i (store 0 0)) o)))

pub made_all : (o a : List ℕ) (slot v n i : ℕ) → store_count ≤ i → i ≤ store_count → a ≡ made (take (min i n) (stores slot v)) o → a ≡ made (take n (stores slot v)) o
made_all o a slot v n i h k g = g ∙ ap (λ (ss : List Store). made ss o) (same (leb n store_count) refl)
  where
    same : (b : Bool) → leb n store_count ≡ b → take (min i n) (stores slot v) ≡ take n (stores slot v)
    same true q = let r : min i n ≡ n = omega (arith, leb-true n store_count q) in ap (λ (m : ℕ). take m (stores slot v)) r
    same false q =
        let r : store_count < n = leb-false n store_count q in
        take_all (min i n) (stores slot v) (rw eleven (omega arith)) ∙ sym (take_all n (stores slot v) (rw eleven (omega arith)))
