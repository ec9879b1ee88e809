-- A law for each way through the functions that read an area and answer. Assumes nothing.
use mathlib.Core.Path.{◌≡◌, refl, sym, ap, ◌∙◌}
use mathlib.Core.Bool.{Bool, true, false, ◌&&◌, ◌||◌}
use mathlib.Core.List.{List, [], ◌∷◌, ◌++◌}
use Prim.Native.Nat.{ℕ, zero, suc, ◌+◌, ◌-◌, ◌*◌, ◌/◌, ◌<◌, ◌≤◌}
use native.Mathlib.Omega.{arith}
use borrow.Author.Tests.{ne_eqb, eqb-true, eqb-false}
use lib.Dec.{eqb, ltb}
use lib.ListN.{length, get_or, take, drop, get_or-append, length-drop, length-append}
use lib.Seq.{take_all, drop-nil, drop-append_seam}
use Rattle.std.proofs.lemmas.Bool.{false_from_ne_true, false≢true}
use Rattle.std.proofs.lemmas.List.{get_or-drop}
use Rattle.std.proofs.lemmas.Option.{slice_get_cases}
use Rattle.std.proofs.Common.{inl, inr}
use Rattle.std.specs.Prelude.{Ok, Err, Option, Some, None, IfSome, IsSomeAnd}
use Rattle.std.specs.Iterator.Runs.{Run, YieldsRun, IsChunksExactRun}
use Rattle.std.specs.List.{IsSubsliceAt}
use denote.Ref.{Bor}
use Rattle.slots.specs.Area.{Field, length_field, kind_field, ceiling_field, held_in, slot_size, area_size, slot_count, taken_kind, taken, length_of, kind_of, ceiling_of, well_formed, ceiling_before}
use Rattle.slots.specs.Contents.{found, malformed, continues, contents_of}
use Rattle.fields.proofs.Laws.{field_same}
use Rattle.slots.proofs.Holding.{formed, first_free_lem, formed_holds, chain_holds, chain_stops}

-- ---- a slot's bytes

drop_drop : (n m : ℕ) (l : List ℕ) → drop (n + m) l ≡ drop m (drop n l)
drop_drop zero m l = let z : 0 + m ≡ m = omega arith in rw z
drop_drop (suc n) m [] = drop-nil (suc n + m) ∙ sym (drop-nil m)
drop_drop (suc n) m (x ∷ l) = let e : suc n + m ≡ suc (n + m) = omega arith in rw e (drop_drop n m l)

module _ (a x r : List ℕ) (k : ℕ) (e : drop (slot_size * k) a ≡ x ++ r) (l : length x ≡ slot_size) where
  byte_same : (i : ℕ) → i < slot_size → get_or x i 0 ≡ get_or a (slot_size * k + i) 0
  byte_same i m =
      let n : i < length x = omega arith in
      sym (get_or-append x r 0 i n) ∙ rw e at (get_or-drop (slot_size * k) a i 0)

  -- a field of the slot that begins what there is from slot k on
  pub field_first : (f : Field) → held_in x 0 f ≡ held_in a k f
  field_first length_field = field_same x a 0 (slot_size * k + 0) 2 (λ i m. let z : 0 + i ≡ i = omega arith in let y : slot_size * k + 0 + i ≡ slot_size * k + i = omega arith in rw (z, y) (byte_same i (omega arith)))
  field_first kind_field = field_same x a 2 (slot_size * k + 2) 2 (λ i m. let y : slot_size * k + 2 + i ≡ slot_size * k + (2 + i) = omega arith in rw y (byte_same (2 + i) (omega arith)))
  field_first ceiling_field = field_same x a 4 (slot_size * k + 4) 8 (λ i m. let y : slot_size * k + 4 + i ≡ slot_size * k + (4 + i) = omega arith in rw y (byte_same (4 + i) (omega arith)))

  -- whether it goes on behind the slots before it
  pub next_first : (c : ℕ) → c ≡ ceiling_before a k
      → (taken x 0 && eqb (kind_of x 0) taken_kind && (eqb k 0 || ltb c (ceiling_of x 0))) ≡ continues a k
  unfolding continues
  next_first c o = rw (field_first length_field, field_first kind_field, field_first ceiling_field, o)

  pub after_first : r ≡ drop (slot_size * (k + 1)) a
  after_first =
      let f : slot_size * (k + 1) ≡ slot_size * k + slot_size = omega arith in
      sym (drop-append_seam x r) ∙ rw (l, ← e) (sym (rw f (drop_drop (slot_size * k) slot_size a)))

  pub room_first : slot_size * (k + 1) ≤ length a
  room_first = omega (arith, length-drop (slot_size * k) a, ap length e, length-append x r)

-- ---- the ceiling before the next slot

pub before_more : (a : List ℕ) (k x : ℕ) → x ≡ ceiling_of a k → x ≡ ceiling_before a (k + 1)
unfolding ceiling_before
before_more a k x e = let s : k + 1 ≡ suc k = omega arith in rw s e

pub before_none : (a : List ℕ) → 0 ≡ ceiling_before a 0
unfolding ceiling_before
before_none a = refl

-- ---- what an area holds

pub size_damaged : (a : List ℕ) → (length a ≡ area_size → ⊥) → Err malformed ≡ contents_of a
unfolding contents_of well_formed
size_damaged a n = rw (ne_eqb (length a) area_size n)

pub not_damaged : (a : List ℕ) → well_formed a ≡ false → Err malformed ≡ contents_of a
unfolding contents_of
not_damaged a w = rw w

module _ (a : List ℕ) (n : ℕ) (size : length a ≡ area_size) where
  abbrev rest : List ℕ
  rest = take (length a - slot_size * n) (drop (slot_size * n) a)

  rest_drop : rest ≡ drop (slot_size * n) a
  rest_drop = take_all (length a - slot_size * n) (drop (slot_size * n) a) (omega (arith, length-drop (slot_size * n) a))

  -- what follows n slots, and the slots from there on
  abbrev RestFree : Type 0
  RestFree = (k : ℕ) → slot_size * (k + 1) ≤ length rest → length_of rest k ≡ 0

  rest_room : length rest ≡ length a - slot_size * n
  rest_room = ap length rest_drop ∙ length-drop (slot_size * n) a

  rest_length : (k : ℕ) → length_of rest k ≡ length_of a (n + k)
  rest_length k =
      rw rest_drop
      (field_same (drop (slot_size * n) a) a (slot_size * k + 0) (slot_size * (n + k) + 0) 2
      (λ i m. let y : slot_size * n + (slot_size * k + 0 + i) ≡ slot_size * (n + k) + 0 + i = omega arith in rw y at (get_or-drop (slot_size * n) a (slot_size * k + 0 + i) 0)))

  rest_frees : RestFree → (k : ℕ) → n ≤ k → k < slot_count → length_of a k ≡ 0
  rest_frees f k l m =
      let e : n + (k - n) ≡ k = omega arith in
      rw e at (sym (rest_length (k - n)) ∙ f (k - n) (omega (arith, rest_room)))

  frees_rest : ((k : ℕ) → n ≤ k → k < slot_count → length_of a k ≡ 0) → RestFree
  frees_rest f k l = rest_length k ∙ f (n + k) (omega arith) (omega (arith, rest_room))

  module _ (c : ℕ) (fits : slot_size * n ≤ length a) (last : c ≡ ceiling_before a n)
      (each : (k : ℕ) → k < n → continues a k ≡ true) where
    pub contents_held : RestFree → Ok (found n c) ≡ contents_of a
    unfolding contents_of
    contents_held free =
        let h = chain_holds a n size (omega arith) each (rest_frees free) in
        rw (formed h, first_free_lem h, last)

    pub contents_damaged : (slot_size * (n + 1) ≤ length a → continues a n ≡ false) → (r : Bool)
        → (RestFree → r ≡ true) → r ≡ false → Err malformed ≡ contents_of a
    contents_damaged stops r complete f =
        not_damaged a (false_from_ne_true (well_formed a) (λ w.
        let e = chain_stops a n (omega arith) each (λ l. stops (omega arith)) w in
        false≢true (sym f ∙ complete (frees_rest (λ k l m. (formed_holds a w).frees k (omega arith) m)))))

-- ---- slots one after the other

-- a rule for what may be there, as another one
pub if_some : {A : Type 0} {P Q : A → Type 0} (o : Option A) → IfSome o P → ((x : A) → P x → Q x) → IfSome o Q
if_some (Some x) p f = f x p
if_some None p f = tt

pub and_some : {A : Type 0} {P Q : A → Type 0} (o : Option A) → IsSomeAnd o P → ((x : A) → P x → Q x) → IsSomeAnd o Q
and_some (Some x) p f = f x p
and_some None p f = p

module _ {S : Type 0} {steps : S → Option (Bor (List ℕ)) → S → Type 0} (p : Run steps) (n : ℕ) (xs : List ℕ) (s : n ≡ slot_size)
    (u : IsChunksExactRun p n xs) where
  -- the length of the chunk at a place is that of the slot there
  chunk_length : (k : ℕ) (x : Bor (List ℕ)) → p.at k ≡ Some x → length_of x.now 0 ≡ length_of xs k
  chunk_length k x e = by (rw e at (u.2 k))
    where
      by : (length x.now ≡ n) × (k * n + n ≤ length xs) × IsSubsliceAt n xs (k * n) x.now → length_of x.now 0 ≡ length_of xs k
      by (l, m, t) =
          field_same x.now xs 0 (slot_size * k + 0) 2
          (λ i o. let z : 0 + i ≡ i = omega arith in let y : k * n + i ≡ slot_size * k + 0 + i = rw s (omega arith) in rw (z, ← y) (t.2 i 0 (rw s (omega arith))))

  item : (k : ℕ) → k < p.len → (x : Bor (List ℕ)) × (p.at k ≡ Some x)
  unfolding YieldsRun
  item k l = elim (slice_get_cases p.items k).1 [ inl (x, a, e, g) ↦ (x, p.gave.1 k ∙ e) | inr (a, e) ↦ absurd (omega (arith, p.long)) ]

  -- if all chunks are free, all slots are
  pub run_free : p.whole ≡ true → ((k : ℕ) → IfSome (p.at k) (λ x. true ≡ eqb (length_of x.now 0) 0)) → (k : ℕ)
      → slot_size * (k + 1) ≤ length xs → length_of xs k ≡ 0
  run_free w f k l =
      let m : p.len ≡ length xs / slot_size = u.1 w ∙ ap (λ (m : ℕ). length xs / m) s in
      let x = item k (omega arith) in
      sym (chunk_length k x.0 x.1) ∙ eqb-true (length_of x.0.now 0) 0 (sym (rw x.1 at (f k)))

  -- and if one is not, one slot is not
  pub run_taken : (k : ℕ) × (k < p.len) × IsSomeAnd (p.at k) (λ x. false ≡ eqb (length_of x.now 0) 0)
      → ((k : ℕ) → slot_size * (k + 1) ≤ length xs → length_of xs k ≡ 0) → ⊥
  run_taken (k, l, t) f =
      let x = item k l in
      let m : k * n + n ≤ length xs = (rw x.1 at (u.2 k)).1 in
      let r : k * slot_size + slot_size ≤ length xs = rw s at m in
      let o : slot_size * (k + 1) ≤ length xs = omega arith in
      eqb-false (length_of x.0.now 0) 0 (sym (rw x.1 at t)) (chunk_length k x.0 x.1 ∙ f k o)
