-- An area that holds n ceilings: well formed, with n slots taken. Assumes nothing.
use mathlib.Core.Path.{◌≡◌, refl, sym, ap, ◌∙◌}
use mathlib.Core.Bool.{Bool, true, false, and-false, ◌&&◌}
use mathlib.Core.List.{List}
use Prim.Native.Nat.{ℕ, zero, suc, ◌+◌, ◌-◌, ◌<◌, ◌≤◌}
use native.Mathlib.Numerals.{add-one}
use native.Mathlib.Omega.{arith}
use borrow.Author.Tests.{eq-eqb, ne_eqb, lt-ltb, ltb-true, ltb-false, eqb-true}
use lib.Dec.{eqb, ltb}
use lib.ListN.{length}
use Rattle.std.proofs.lemmas.Bool.{and_parts, false≢true}
use Rattle.slots.specs.Area.{area_size, slot_count, taken_length, taken_kind, length_of, kind_of, ceiling_of, free, taken, length_rule, order_rule, kind_rule, ceiling_rule, every, well_formed, first_free, ceiling_before, ceiling}
use Rattle.slots.specs.Contents.{continues}
use Rattle.slots.proofs.Searching.{or_right, every_true, every_each, first_most, first-is, first_below, first_at}

pub record Holds (a : List ℕ) (n : ℕ) : Type 0 where
  pub size : length a ≡ area_size
  pub fits : n ≤ slot_count
  pub takes : (k : ℕ) → k < n → length_of a k ≡ taken_length
  pub kinds : (k : ℕ) → k < n → kind_of a k ≡ taken_kind
  pub rises : (k : ℕ) → k + 1 < n → ceiling_of a k < ceiling_of a (k + 1)
  pub frees : (k : ℕ) → n ≤ k → k < slot_count → length_of a k ≡ 0

-- ---- such an area is well formed

module _ {a : List ℕ} {n : ℕ} (h : Holds a n) where
  length_at : (k : ℕ) → k < slot_count → length_rule a k ≡ true
  length_at k l = by (ltb k n) refl
    where
      by : (b : Bool) → ltb k n ≡ b → length_rule a k ≡ true
      by true q = rw (h.takes k (ltb-true k n q))
      by false q = rw (h.frees k (ltb-false k n q) l)

  order_at : (k : ℕ) → k < slot_count - 1 → order_rule a k ≡ true
  order_at k l = by (ltb (k + 1) n) refl
    where
      by : (b : Bool) → ltb (k + 1) n ≡ b → order_rule a k ≡ true
      by true q = let o = ltb-true (k + 1) n q in rw (h.takes k (omega arith))
      by false q = let o = ltb-false (k + 1) n q in rw (h.frees (k + 1) o (omega arith), and-false (free a k))

  kind_at : (k : ℕ) → k < slot_count → kind_rule a k ≡ true
  kind_at k l = by (ltb k n) refl
    where
      by : (b : Bool) → ltb k n ≡ b → kind_rule a k ≡ true
      by true q = let o = ltb-true k n q in rw (h.takes k o, h.kinds k o)
      by false q = rw (h.frees k (ltb-false k n q) l)

  ceiling_at : (k : ℕ) → k < slot_count - 1 → ceiling_rule a k ≡ true
  ceiling_at k l = by (ltb (k + 1) n) refl
    where
      by : (b : Bool) → ltb (k + 1) n ≡ b → ceiling_rule a k ≡ true
      by true q =
          let o = ltb-true (k + 1) n q in
          rw (h.takes k (omega arith), h.takes (k + 1) o, lt-ltb (ceiling_of a k) (ceiling_of a (k + 1)) (h.rises k o))
      by false q = let o = ltb-false (k + 1) n q in rw (h.frees (k + 1) o (omega arith), and-false (taken a k))

  pub formed : well_formed a ≡ true
  unfolding well_formed
  formed =
      rw (eq-eqb (length a) area_size h.size, every_true slot_count (length_rule a) length_at, every_true (slot_count - 1) (order_rule a) order_at, every_true slot_count (kind_rule a) kind_at, every_true (slot_count - 1) (ceiling_rule a) ceiling_at)

  pub first_free_lem : first_free a ≡ n
  first_free_lem =
      first-is slot_count (free a) n h.fits (λ k l. ne_eqb (length_of a k) 0 (λ e. let t = h.takes k l in omega arith))
      (λ l. eq-eqb (length_of a n) 0 (h.frees n (omega arith) l))

  pub ceiling_is : ceiling a ≡ ceiling_before a n
  ceiling_is = ap (ceiling_before a) first_free_lem

  -- each taken slot goes on where the one before it ends
  pub holds_continues : (k : ℕ) → k < n → continues a k ≡ true
  unfolding continues ceiling_before
  holds_continues zero l = rw (h.takes zero l, h.kinds zero l)
  holds_continues (suc k) l =
      rw (h.takes (suc k) l, h.kinds (suc k) l, ne_eqb (suc k) 0 (λ e. omega arith), lt-ltb (ceiling_of a k) (ceiling_of a (suc k)) (rw add-one at (h.rises k (omega arith))))

-- ---- every well-formed area holds as many ceilings as its first free slot says

module _ (a : List ℕ) (w : well_formed a ≡ true) where
  -- the five conditions
  record Rules : Type 0 where
    pub size : length a ≡ area_size
    pub lengths : (k : ℕ) → k < slot_count → length_rule a k ≡ true
    pub order : (k : ℕ) → k < slot_count - 1 → order_rule a k ≡ true
    pub kinds : (k : ℕ) → k < slot_count → kind_rule a k ≡ true
    pub ceilings : (k : ℕ) → k < slot_count - 1 → ceiling_rule a k ≡ true

  keeps_rules : Rules
  unfolding well_formed
  keeps_rules =
      let s = eqb (length a) area_size in
      let l = every slot_count (length_rule a) in
      let o = every (slot_count - 1) (order_rule a) in
      let k = every slot_count (kind_rule a) in
      let c = every (slot_count - 1) (ceiling_rule a) in
      let w5 = and_parts (s && l && o && k) c w in
      let w4 = and_parts (s && l && o) k w5.0 in
      let w3 = and_parts (s && l) o w4.0 in
      let w2 = and_parts s l w3.0 in
      record {
        size = eqb-true (length a) area_size w2.0;
        lengths = every_each slot_count (length_rule a) w2.1;
        order = every_each (slot_count - 1) (order_rule a) w3.1;
        kinds = every_each slot_count (kind_rule a) w4.1;
        ceilings = every_each (slot_count - 1) (ceiling_rule a) w5.1;
      }

  abbrev n : ℕ
  n = first_free a

  n_fits : n ≤ slot_count
  n_fits = first_most slot_count (free a)

  taken_below : (k : ℕ) → k < n → length_of a k ≡ taken_length
  taken_below k l =
      eqb-true (length_of a k) taken_length
      (or_right (free a k) (taken a k) (keeps_rules.lengths k (omega (arith, n_fits))) (first_below slot_count (free a) k l))

  kind_below : (k : ℕ) → k < n → kind_of a k ≡ taken_kind
  kind_below k l = eqb-true (kind_of a k) taken_kind (rw (taken_below k l) at (keeps_rules.kinds k (omega (arith, n_fits))))

  rises_below : (k : ℕ) → k + 1 < n → ceiling_of a k < ceiling_of a (k + 1)
  rises_below k l =
      ltb-true (ceiling_of a k) (ceiling_of a (k + 1))
      (rw (taken_below k (omega arith), taken_below (k + 1) l) at (keeps_rules.ceilings k (omega (arith, n_fits))))

  -- after a free slot comes a free one
  free_next : (k : ℕ) → k < slot_count - 1 → length_of a k ≡ 0 → length_of a (k + 1) ≡ 0
  free_next k l z = by (free a (k + 1)) refl
    where
      by : (b : Bool) → free a (k + 1) ≡ b → length_of a (k + 1) ≡ 0
      by true q = eqb-true (length_of a (k + 1)) 0 q
      by false q =
          let t = eqb-true (length_of a (k + 1)) taken_length (or_right (free a (k + 1)) (taken a (k + 1)) (keeps_rules.lengths (k + 1) (omega arith)) q) in
          absurd (false≢true (rw (z, t) at (keeps_rules.order k l)))

  free_from : (d : ℕ) → n + d < slot_count → length_of a (n + d) ≡ 0
  free_from zero l = let e : n + 0 ≡ n = omega arith in rw e (eqb-true (length_of a n) 0 (first_at slot_count (free a) (omega arith)))
  free_from (suc d) l =
      let e : n + d + 1 ≡ n + suc d = omega arith in
      rw e at (free_next (n + d) (omega arith) (free_from d (omega arith)))

  pub formed_holds : Holds a n
  formed_holds = record {
    size = keeps_rules.size;
    fits = n_fits;
    takes = taken_below;
    kinds = kind_below;
    rises = rises_below;
    frees = λ k l m. let e : n + (k - n) ≡ k = omega arith in rw e at (free_from (k - n) (omega arith));
  }

-- ---- the pass over the slots

chain_taken : (a : List ℕ) (k : ℕ) → continues a k ≡ true → length_of a k ≡ taken_length
unfolding continues
chain_taken a k e = eqb-true (length_of a k) taken_length (and_parts (taken a k) (eqb (kind_of a k) taken_kind) (and_parts _ _ e).0).0

module _ (a : List ℕ) where
  -- slots that go on one after the other up to n, and free ones from there
  pub chain_holds : (n : ℕ) → length a ≡ area_size → n ≤ slot_count → ((k : ℕ) → k < n → continues a k ≡ true)
      → ((k : ℕ) → n ≤ k → k < slot_count → length_of a k ≡ 0) → Holds a n
  unfolding continues ceiling_before
  chain_holds n size fits each frees = record {
    size = size;
    fits = fits;
    takes = λ k l. chain_taken a k (each k l);
    kinds = λ k l. eqb-true (kind_of a k) taken_kind (and_parts (taken a k) (eqb (kind_of a k) taken_kind) (and_parts _ _ (each k l)).0).1;
    rises = λ k l.
        let e : suc k ≡ k + 1 = omega arith in
        ltb-true (ceiling_of a k) (ceiling_of a (k + 1))
        (rw e at (or_right (eqb (suc k) 0) (ltb (ceiling_of a k) (ceiling_of a (suc k))) (and_parts (taken a (suc k) && eqb (kind_of a (suc k)) taken_kind) _ (each (suc k) (omega arith))).1
        (ne_eqb (suc k) 0 (λ e. omega arith))));
    frees = frees;
  }

  -- where the slots stop going on is the first free one, if the area is well formed
  pub chain_stops : (n : ℕ) → n ≤ slot_count → ((k : ℕ) → k < n → continues a k ≡ true) → (n < slot_count → continues a n ≡ false)
      → well_formed a ≡ true → n ≡ first_free a
  chain_stops n fits each stops w = by (ltb n (first_free a)) (ltb (first_free a) n) refl refl
    where
      h : Holds a (first_free a)
      h = formed_holds a w

      by : (b c : Bool) → ltb n (first_free a) ≡ b → ltb (first_free a) n ≡ c → n ≡ first_free a
      by true c q r =
          let l = ltb-true n (first_free a) q in
          absurd (false≢true (sym (stops (omega (arith, h.fits))) ∙ holds_continues h n l))
      by false true q r =
          let l = ltb-true (first_free a) n r in
          absurd (let t = chain_taken a (first_free a) (each (first_free a) l) in let z = h.frees (first_free a) (omega arith) (omega arith) in omega arith)
      by false false q r = let l = ltb-false n (first_free a) q in let m = ltb-false (first_free a) n r in omega arith
