-- A raise that is cut after any of its stores leaves an area that holds the old ceilings, and all eleven one that holds the new one too.
-- Assumes nothing.
use mathlib.Core.Path.{◌≡◌, refl, sym, ap, ◌∙◌}
use mathlib.Core.Bool.{Bool, true, false, cond, ◌||◌}
use mathlib.Core.List.{List}
use Prim.Native.Nat.{ℕ, zero, suc, ◌+◌, ◌*◌, ◌^◌, ◌<◌, ◌≤◌}
use native.Mathlib.Omega.{arith}
use borrow.Author.Tests.{eqb-false, leb-false, ltb-true, ltb-false}
use lib.Dec.{eqb, leb, ltb}
use lib.ListN.{length, take}
use lib.Seq.{take_all}
use Rattle.slots.specs.Area.{slot_count, taken_length, taken_kind, length_of, kind_of, ceiling_of, well_formed, first_free, ceiling_before, ceiling}
use Rattle.slots.proofs.Searching.{each_more}
use Rattle.slots.proofs.Passing.{before_more}
use Rattle.slots.proofs.Holding.{Holds, formed, ceiling_is, formed_holds}
use Rattle.std.proofs.lemmas.Bool.{true≢false}
use Rattle.std.specs.Prelude.{Ok, Err}
use Rattle.journal.specs.Stores.{stores, store_count, made}
use Rattle.journal.specs.Answers.{Started, Raised, counter, refused, restart_of, refuses_raise, left, Left, raise_of, raise_part_of}
use Rattle.journal.proofs.Bytes.{length_made, eleven}
use Rattle.journal.proofs.Answering.{part_whole}
use Rattle.recovery.specs.Cuts.{Finds, found_after, SurvivesCuts}
use Rattle.recovery.proofs.Storing.{first_apart, whole_apart, new_kind, new_ceiling, new_length}

-- the ceiling before slot n, in areas that have the same ceilings below it
before_same : (a b : List ℕ) (n : ℕ) → ((k : ℕ) → k < n → ceiling_of b k ≡ ceiling_of a k) → ceiling_before b n ≡ ceiling_before a n
unfolding ceiling_before
before_same a b zero f = refl
before_same a b (suc n) f = f n (omega arith)

module _ {a : List ℕ} {n : ℕ} (h : Holds a n) (v : ℕ) where
  -- before the last store
  module _ (m : ℕ) (l : m < store_count) where
    abbrev pub torn : List ℕ
    torn = made (take m (stores n v)) a

    same_length : (k : ℕ) → length_of torn k ≡ length_of a k
    same_length k = first_apart n v a m l (12 * k + 0) 2 (λ i q x y z e. omega arith)

    same_kind : (k : ℕ) → k < n → kind_of torn k ≡ kind_of a k
    same_kind k o = first_apart n v a m l (12 * k + 2) 2 (λ i q x y z e. omega arith)

    same_ceiling : (k : ℕ) → k < n → ceiling_of torn k ≡ ceiling_of a k
    same_ceiling k o = first_apart n v a m l (12 * k + 4) 8 (λ i q x y z e. omega arith)

    pub torn_holds : Holds torn n
    torn_holds = record {
      size = length_made (take m (stores n v)) a ∙ h.size;
      fits = h.fits;
      takes = λ k o. same_length k ∙ h.takes k o;
      kinds = λ k o. same_kind k o ∙ h.kinds k o;
      rises = λ k o. rw (same_ceiling k (omega arith), same_ceiling (k + 1) o) (h.rises k o);
      frees = λ k p o. same_length k ∙ h.frees k p o;
    }

    pub torn_ceiling : ceiling torn ≡ ceiling a
    torn_ceiling = ceiling_is torn_holds ∙ before_same a torn n same_ceiling ∙ sym (ceiling_is h)

  -- after it
  module _ (free : n < slot_count) (fit : v < 256 ^ 8) (above : ceiling a < v) where
    room : 12 * n + 12 ≤ length a
    room = omega (arith, h.size)

    abbrev pub done : List ℕ
    done = made (stores n v) a

    old_length : (k : ℕ) → (k ≡ n → ⊥) → length_of done k ≡ length_of a k
    old_length k o = whole_apart n v a (12 * k + 0) 2 (λ i q x y z e. o (omega arith))

    old_kind : (k : ℕ) → k < n → kind_of done k ≡ kind_of a k
    old_kind k o = whole_apart n v a (12 * k + 2) 2 (λ i q x y z e. omega arith)

    old_ceiling : (k : ℕ) → k < n → ceiling_of done k ≡ ceiling_of a k
    old_ceiling k o = whole_apart n v a (12 * k + 4) 8 (λ i q x y z e. omega arith)

    last_ceiling : ceiling_of done n ≡ v
    last_ceiling = new_ceiling n v a room fit

    rises_last : (k : ℕ) → k + 1 ≡ n → ceiling_of done k < ceiling_of done n
    rises_last k e =
        let b : ceiling_of a k ≡ ceiling_before a n = rw e at (before_more a k (ceiling_of a k) refl) in
        rw (old_ceiling k (omega arith), last_ceiling) (omega (arith, ceiling_is h, b, above))

    pub done_holds : Holds done (n + 1)
    done_holds = record {
      size = length_made (stores n v) a ∙ h.size;
      fits = omega arith;
      takes = each_more {P = λ k. length_of done k ≡ taken_length} n (λ k o. old_length k (λ e. omega arith) ∙ h.takes k o) (new_length n v a room (h.frees n (omega arith) free));
      kinds = each_more {P = λ k. kind_of done k ≡ taken_kind} n (λ k o. old_kind k o ∙ h.kinds k o) (new_kind n v a room);
      rises = λ k o. each_more {P = λ j. (k : ℕ) → k + 1 ≡ j → ceiling_of done k < ceiling_of done j} n
          (λ j l k e. rw (old_ceiling k (omega arith), old_ceiling j l, ← e) (h.rises k (omega arith))) rises_last (k + 1) o k refl;
      frees = λ k p o. old_length k (λ e. omega arith) ∙ h.frees k (omega arith) o;
    }

    pub done_ceiling : ceiling done ≡ v
    done_ceiling = ceiling_is done_holds ∙ sym (before_more done n v (sym last_ceiling))

-- ---- what a restart finds

holds_finds : {a : List ℕ} {n : ℕ} → Holds a n → Finds a (ceiling a)
unfolding restart_of
holds_finds h = rw (formed h)

accepted : (a : List ℕ) (v : ℕ) → well_formed a ≡ true → refuses_raise a v ≡ false → (first_free a ≡ slot_count → ⊥) × (ceiling a < v)
unfolding refuses_raise
accepted a v w r = by (eqb (first_free a) slot_count) (leb v (ceiling a)) refl refl (rw w at r)
  where
    by : (x y : Bool) → eqb (first_free a) slot_count ≡ x → leb v (ceiling a) ≡ y → x || y ≡ false → (first_free a ≡ slot_count → ⊥) × (ceiling a < v)
    by true y p q e = absurd (true≢false e)
    by false true p q e = absurd (true≢false e)
    by false false p q e = (eqb-false (first_free a) slot_count p, leb-false v (ceiling a) q)

-- a raise, cut or not, leaves an area well formed, and no ceiling below the old one
pub record Kept (a b : List ℕ) : Type 0 where
  pub formed : well_formed b ≡ true
  pub grows : ceiling a ≤ ceiling b

module _ (a : List ℕ) (v : ℕ) (w : well_formed a ≡ true) (fit : v < 256 ^ 8) where
  h : Holds a (first_free a)
  h = formed_holds a w

  -- all eleven stores
  module _ (r : refuses_raise a v ≡ false) where
    above : ceiling a < v
    above = (accepted a v w r).1

    free : first_free a < slot_count
    free = omega (arith, (accepted a v w r).0, h.fits)

    whole_holds : Holds (made (stores (first_free a) v) a) (first_free a + 1)
    whole_holds = done_holds h v free fit above

    whole_ceiling : ceiling (made (stores (first_free a) v) a) ≡ v
    whole_ceiling = done_ceiling h v free fit above

  -- what n stores leave: an area that is well formed, with the ceiling that is to be found, which is no lower than the old one
  record LeftBy (b : List ℕ) (m : ℕ) : Type 0 where
    pub held : ℕ
    pub holds : Holds b held
    pub last : ceiling b ≡ m
    pub grows : ceiling a ≤ m

  abbrev after : ℕ → Bool → Left
  after n b = cond b (left (Err refused) a) (left (Ok tt) (made (take n (stores (first_free a) v)) a))

  -- of one that isn't refused, by whether all stores are made
  leaves_done : {k : ℕ} (n : ℕ) → k ≡ store_count → refuses_raise a v ≡ false
      → LeftBy (made (take n (stores (first_free a) v)) a) (cond (ltb n k) (ceiling a) v)
  leaves_done {k} n e r = by (ltb n k) refl
    where
      by : (d : Bool) → ltb n k ≡ d → LeftBy (made (take n (stores (first_free a) v)) a) (cond d (ceiling a) v)
      by true q =
          let l : n < store_count = omega (arith, ltb-true n k q) in
          record { held = first_free a; holds = torn_holds h v n l; last = torn_ceiling h v n l; grows = omega arith }
      by false q =
          let l : store_count ≤ n = omega (arith, ltb-false n k q) in
          rw (take_all n (stores (first_free a) v) (rw eleven l))
          (record { held = first_free a + 1; holds = whole_holds r; last = whole_ceiling r; grows = omega (arith, above r) })

  leaves : (n : ℕ) → LeftBy (raise_part_of a v n).area (found_after (raise_part_of a v n).answer (ceiling a) v n)
  unfolding raise_part_of
  leaves n = by (refuses_raise a v) refl
    where
      by : (b : Bool) → refuses_raise a v ≡ b → LeftBy (after n b).area (found_after (after n b).answer (ceiling a) v n)
      by true r = record { held = first_free a; holds = h; last = refl; grows = omega arith }
      by false r = leaves_done n (omega arith) r

  part_finds : (n : ℕ) → Finds (raise_part_of a v n).area (found_after (raise_part_of a v n).answer (ceiling a) v n)
  part_finds n = let x = leaves n in rw x.last at (holds_finds x.holds)

  pub part_keeps : (n : ℕ) → Kept a (raise_part_of a v n).area
  part_keeps n = let x = leaves n in record { formed = formed x.holds; grows = omega (arith, x.last, x.grows) }

  pub raise_survives : SurvivesCuts a v
  raise_survives = record { cut = part_finds; whole = rw (part_whole a v store_count (omega arith)) at (part_finds store_count) }

-- ---- of what the functions left

module _ (a b : List ℕ) (x : Raised) (v : ℕ) (fit : v < 256 ^ 8) (s : Started) (f : s ≡ restart_of b) (w : well_formed a ≡ true) where
  pub part_found : (n : ℕ) → left x b ≡ raise_part_of a v n → s ≡ Ok (counter (found_after x (ceiling a) v n))
  part_found n e = f ∙ rw (ap (λ (l : Left). l.area) e, ap (λ (l : Left). l.answer) e) ((raise_survives a v w fit).cut n)

  pub raise_found : left x b ≡ raise_of a v → s ≡ Ok (counter (found_after x (ceiling a) v store_count))
  raise_found e = f ∙ rw (ap (λ (l : Left). l.area) e, ap (λ (l : Left). l.answer) e) (raise_survives a v w fit).whole
