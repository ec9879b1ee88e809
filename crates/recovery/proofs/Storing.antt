-- What the stores of a raise change, and what not. Assumes nothing.
use mathlib.Core.Path.{◌≡◌, refl, sym, ap, ◌∙◌}
use mathlib.Core.List.{List, [], ◌∷◌, ◌++◌, append_assoc}
use Prim.Native.Nat.{ℕ, zero, suc, ◌+◌, ◌*◌, ◌^◌, ◌<◌, ◌≤◌}
use native.Mathlib.Omega.{arith}
use lib.Dec.{lit<}
use lib.ListN.{length, get_or, set, take, drop, length-append}
use lib.Seq.{sets, sets-eq, length-sets, length-take-le, take-append-le, get_or-append-add, get_or-set_same, get_or-set_other}
use Rattle.fields.specs.Fields.{number_by, field_at, bytes_of}
use Rattle.fields.proofs.Laws.{field_same, number_bytes}
use Rattle.slots.specs.Area.{length_of, kind_of, ceiling_of, taken_length, taken_kind}
use Rattle.journal.specs.declared.Store.{Store}
use Rattle.journal.specs.Stores.{store, upward, stores, store_count, made}
use Rattle.journal.proofs.Bytes.{made_more}

-- ---- places

abbrev Within : ℕ → ℕ → List Store → Type 0
Within lo hi [] = Unit
Within lo hi (s ∷ ss) = (lo ≤ s.at) × (s.at < hi) × Within lo hi ss

within_take : (lo hi n : ℕ) (ss : List Store) → Within lo hi ss → Within lo hi (take n ss)
within_take lo hi zero ss w = tt
within_take lo hi (suc n) [] w = tt
within_take lo hi (suc n) (s ∷ ss) w = (w.0, w.1, within_take lo hi n ss w.2)

within_upward : (lo hi p : ℕ) (bs : List ℕ) → lo ≤ p → p + length bs ≤ hi → Within lo hi (upward p bs)
unfolding upward
within_upward lo hi p [] l m = tt
within_upward lo hi p (b ∷ bs) l m = (l, omega arith, within_upward lo hi (p + 1) bs (omega arith) (omega arith))

-- a byte that no store is at stays
made_apart : (lo hi j : ℕ) (ss : List Store) (a : List ℕ) → Within lo hi ss → ((p : ℕ) → lo ≤ p → p < hi → j ≡ p → ⊥)
    → get_or (made ss a) j 0 ≡ get_or a j 0
unfolding made
made_apart lo hi j [] a w n = refl
made_apart lo hi j (s ∷ ss) a w n =
    made_apart lo hi j ss (set a s.at s.byte) w.2 n ∙ get_or-set_other a s.at j s.byte 0 (n s.at w.0 w.1)

-- ---- a number that was stored

read_after : (pre : List ℕ) (q w v : ℕ) (r : List ℕ) → length pre ≡ q → v < 256 ^ w → field_at (pre ++ (bytes_of w v ++ r)) q w ≡ v
read_after pre q w v r e h =
    field_same (pre ++ (bytes_of w v ++ r)) (bytes_of w v ++ r) q 0 w (λ i m. let z : 0 + i ≡ i = omega arith in rw (z, ← e) (get_or-append-add pre (bytes_of w v ++ r) i 0))
    ∙ number_bytes w v r h

made_upward : (p : ℕ) (bs a : List ℕ) → made (upward p bs) a ≡ sets a p bs
unfolding made upward
made_upward p [] a = refl
made_upward p (b ∷ bs) a =
    let e : p + 1 ≡ suc p = omega arith in
    made_upward (p + 1) bs (set a p b) ∙ ap (λ (q : ℕ). sets (set a p b) q bs) e

-- ---- the first ten stores, and all eleven

module _ (n v : ℕ) where
  abbrev ten_bytes_lem : List ℕ
  ten_bytes_lem = bytes_of 2 taken_kind ++ bytes_of 8 v

  ten_length : length ten_bytes_lem ≡ 10
  unfolding bytes_of
  ten_length = refl

  abbrev ten_stores : List Store
  ten_stores = upward (12 * n + 2) ten_bytes_lem

  ten_stores_length : length ten_stores ≡ 10
  unfolding bytes_of upward
  ten_stores_length = refl

  ten_within : Within (12 * n + 2) (12 * n + 12) ten_stores
  ten_within = within_upward (12 * n + 2) (12 * n + 12) (12 * n + 2) ten_bytes_lem (omega arith) (rw ten_length (omega arith))

  first_within : (m : ℕ) → m < store_count → Within (12 * n + 2) (12 * n + 12) (take m (stores n v))
  unfolding stores
  first_within m l =
      rw (take-append-le m ten_stores (store (12 * n + 0) taken_length ∷ []) (rw ten_stores_length (omega arith)))
      (within_take (12 * n + 2) (12 * n + 12) m ten_stores ten_within)

  module _ (a : List ℕ) where
    pub first_apart : (m : ℕ) → m < store_count → (p w : ℕ) → ((i q : ℕ) → i < w → 12 * n + 2 ≤ q → q < 12 * n + 12 → p + i ≡ q → ⊥)
        → field_at (made (take m (stores n v)) a) p w ≡ field_at a p w
    first_apart m l p w f =
        field_same (made (take m (stores n v)) a) a p p w
        (λ i k. made_apart (12 * n + 2) (12 * n + 12) (p + i) (take m (stores n v)) a (first_within m l) (λ q x y e. f i q k x y e))

    abbrev whole : List ℕ
    whole = made (stores n v) a

    abbrev ten_made : List ℕ
    ten_made = sets a (12 * n + 2) ten_bytes_lem

    ten_is : made ten_stores a ≡ ten_made
    ten_is = made_upward (12 * n + 2) ten_bytes_lem a

    whole_is : whole ≡ set ten_made (12 * n + 0) taken_length
    unfolding stores
    whole_is = made_more ten_stores (store (12 * n + 0) taken_length) a ∙ ap (λ (l : List ℕ). set l (12 * n + 0) taken_length) ten_is

    -- the ten leave what is not at their places
    ten_apart : (j : ℕ) → ((q : ℕ) → 12 * n + 2 ≤ q → q < 12 * n + 12 → j ≡ q → ⊥) → get_or ten_made j 0 ≡ get_or a j 0
    ten_apart j f = sym (ap (λ (l : List ℕ). get_or l j 0) ten_is) ∙ made_apart (12 * n + 2) (12 * n + 12) j ten_stores a ten_within f

    -- all eleven leave the other slots
    pub whole_apart : (p w : ℕ) → ((i q : ℕ) → i < w → 12 * n ≤ q → q < 12 * n + 12 → p + i ≡ q → ⊥) → field_at whole p w ≡ field_at a p w
    whole_apart p w f =
        rw whole_is
        (field_same (set ten_made (12 * n + 0) taken_length) a p p w
        (λ i m. get_or-set_other ten_made (12 * n + 0) (p + i) taken_length 0 (λ e. f i (12 * n + 0) m (omega arith) (omega arith) e)
        ∙ ten_apart (p + i) (λ q x y e. f i q m (omega arith) y e)))

    -- the new slot, where there is room for it
    module _ (room : 12 * n + 12 ≤ length a) where
      rest : List ℕ
      rest = drop (12 * n + 2 + 10) a

      ten_made_is : ten_made ≡ take (12 * n + 2) a ++ (ten_bytes_lem ++ rest)
      unfolding rest
      ten_made_is = let k : 12 * n + 2 + length ten_bytes_lem ≤ length a = rw ten_length (omega arith) in
          sets-eq ten_bytes_lem a (12 * n + 2) k ∙ rw (ten_length, append_assoc)

      front_length : length (take (12 * n + 2) a) ≡ 12 * n + 2
      front_length = length-take-le (12 * n + 2) a (omega arith)

      ten_kind : field_at ten_made (12 * n + 2) 2 ≡ taken_kind
      ten_kind =
          rw (ten_made_is, append_assoc (bytes_of 2 taken_kind) (bytes_of 8 v) rest)
          (read_after (take (12 * n + 2) a) (12 * n + 2) 2 taken_kind (bytes_of 8 v ++ rest) front_length (lit< tt))

      front_length_2 : length (take (12 * n + 2) a ++ bytes_of 2 taken_kind) ≡ 12 * n + 4
      unfolding bytes_of
      front_length_2 = simp (length-append, front_length) (omega arith)

      ten_ceiling : v < 256 ^ 8 → field_at ten_made (12 * n + 4) 8 ≡ v
      ten_ceiling l =
          rw (ten_made_is, append_assoc (bytes_of 2 taken_kind) (bytes_of 8 v) rest, ← append_assoc (take (12 * n + 2) a) (bytes_of 2 taken_kind) (bytes_of 8 v ++ rest))
          (read_after (take (12 * n + 2) a ++ bytes_of 2 taken_kind) (12 * n + 4) 8 v rest front_length_2 l)

      -- the last store leaves what lies above it
      last_apart : (p w : ℕ) → 12 * n < p → field_at whole p w ≡ field_at ten_made p w
      last_apart p w l =
          rw whole_is
          (field_same (set ten_made (12 * n + 0) taken_length) ten_made p p w (λ i m. get_or-set_other ten_made (12 * n + 0) (p + i) taken_length 0 (λ e. omega arith)))

      pub new_kind : kind_of whole n ≡ taken_kind
      new_kind = last_apart (12 * n + 2) 2 (omega arith) ∙ ten_kind

      pub new_ceiling : v < 256 ^ 8 → ceiling_of whole n ≡ v
      new_ceiling l = last_apart (12 * n + 4) 8 (omega arith) ∙ ten_ceiling l

      pub new_length : length_of a n ≡ 0 → length_of whole n ≡ taken_length
      unfolding number_by
      new_length z =
          rw whole_is
          (let low = get_or-set_same ten_made (12 * n + 0) taken_length 0 (rw length-sets (omega arith)) in
          let high = get_or-set_other ten_made (12 * n + 0) (12 * n + 0 + 1) taken_length 0 (λ e. omega arith) in
          omega (arith, low, high, ten_apart (12 * n + 0 + 1) (λ q x y e. omega arith), z))
