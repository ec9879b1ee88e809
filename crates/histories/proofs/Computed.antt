-- The example, call by call; its bytes are computed. Assumes nothing.
use mathlib.Core.Path.{◌≡◌, refl, ◌∙◌}
use mathlib.Core.Bool.{false}
use mathlib.Core.List.{List, [], ◌∷◌, ◌++◌}
use Prim.Native.Nat.{ℕ, ◌+◌, ◌<◌}
use native.Mathlib.Omega.{arith}
use borrow.Author.Tests.{ne_eqb, lt-leb, lt-ltb}
use lib.Dec.{lit<}
use lib.ListN.{replicate, take}
use Rattle.fields.specs.Fields.{bytes_of}
use Rattle.slots.specs.Area.{slot_count, first_free, ceiling_before, ceiling}
use Rattle.slots.proofs.Holding.{Holds, formed, first_free_lem, ceiling_is}
use Rattle.journal.specs.Stores.{upward, stores, store_count, made}
use Rattle.journal.specs.Answers.{counter, next_of, refuses_raise, raise_of, raise_part_of}
use Rattle.recovery.proofs.Raising.{torn_holds, torn_ceiling, done_holds, done_ceiling}
use Rattle.histories.specs.Histories.{Run, off, on, IsU64, History, fresh, restart, next, raise, part, power_off}
use Rattle.histories.specs.Example.{slot_bytes, torn_bytes, ExampleHistory}
use Rattle.histories.proofs.Every.{ready, fresh_holds}

-- ---- a call on an area of which it is known how many ceilings it holds, and the last

record Reached (a : List ℕ) (k m : ℕ) (r : Run) (ns : List ℕ) : Type 0 where
  pub history : History a r ns
  pub holds : Holds a k
  pub last : ceiling a ≡ m

module _ {a : List ℕ} {k m : ℕ} {r : Run} {ns : List ℕ} (t : Reached a k m r ns) where
  began : Reached a k m (on (counter m)) ns
  began = record {
    history = restart {c = counter m} t.history (rw (← t.last) (ready a (formed t.holds)));
    holds = t.holds;
    last = t.last;
  }

  ended : Reached a k m off ns
  ended = record { history = power_off t.history; holds = t.holds; last = t.last }

module _ {a : List ℕ} {k m n : ℕ} {ns : List ℕ} (t : Reached a k m (on (counter n)) ns) where
  number : n < m → Reached a k m (on (counter (n + 1))) (ns ++ (n ∷ []))
  unfolding next_of
  number l = record {
    history = next {c' = counter (n + 1)} {n = n} t.history (rw (formed t.holds, lt-ltb n (ceiling a) (rw t.last l)));
    holds = t.holds;
    last = t.last;
  }

  module _ (v : ℕ) (w : IsU64 v) (f : k < slot_count) (l : m < v) (b : List ℕ) where
    above : ceiling a < v
    above = rw t.last l

    accepts : refuses_raise a v ≡ false
    unfolding refuses_raise
    accepts = rw (formed t.holds, ne_eqb (first_free a) slot_count (λ e. omega (arith, first_free_lem t.holds)), lt-leb v (ceiling a) above)

    raised : made (stores k v) a ≡ b → Reached b (k + 1) v (on (counter n)) ns
    unfolding raise_of
    raised e = record {
      history = rw (← e) (rw (accepts, first_free_lem t.holds) at (raise v w t.history));
      holds = rw (← e) (done_holds t.holds v f (omega arith) above);
      last = rw (← e) (done_ceiling t.holds v f (omega arith) above);
    }

    stopped : (d : ℕ) → d < store_count → made (take d (stores k v)) a ≡ b → Reached b k m (on (counter n)) ns
    unfolding raise_part_of
    stopped d o e = record {
      history = rw (← e) (rw (accepts, first_free_lem t.holds) at (part v d w t.history));
      holds = rw (← e) (torn_holds t.holds v d o);
      last = rw (← e) (torn_ceiling t.holds v d o ∙ t.last);
    }

-- ---- the areas in between

unfoldable zeros : List ℕ
zeros = replicate 4096 0

unfoldable area_2 : List ℕ
area_2 = slot_bytes 2 ++ replicate 4084 0

unfoldable torn_2 : List ℕ
torn_2 = slot_bytes 2 ++ torn_bytes 4072

unfoldable area_3 : List ℕ
area_3 = slot_bytes 2 ++ (slot_bytes 3 ++ replicate 4072 0)

unfoldable area_6 : List ℕ
area_6 = slot_bytes 2 ++ (slot_bytes 3 ++ (slot_bytes 6 ++ replicate 4060 0))

unfoldable torn_6 : List ℕ
torn_6 = slot_bytes 2 ++ (slot_bytes 3 ++ (slot_bytes 6 ++ torn_bytes 4048))

made_2 : made (stores 0 2) zeros ≡ area_2
unfolding zeros area_2 stores upward made bytes_of
made_2 = refl

cut_2 : made (take 7 (stores 1 9)) area_2 ≡ torn_2
unfolding area_2 torn_2 stores upward made bytes_of
cut_2 = refl

made_3 : made (stores 1 3) torn_2 ≡ area_3
unfolding torn_2 area_3 stores upward made bytes_of
made_3 = refl

made_6 : made (stores 2 6) area_3 ≡ area_6
unfolding area_3 area_6 stores upward made bytes_of
made_6 = refl

cut_6 : made (take 7 (stores 3 9)) area_6 ≡ torn_6
unfolding area_6 torn_6 stores upward made bytes_of
cut_6 = refl

-- ---- the two runs

no_ceiling : ceiling_before zeros 0 ≡ 0
unfolding ceiling_before
no_ceiling = refl

begin : Reached zeros 0 0 off []
unfolding zeros
begin = record { history = fresh; holds = fresh_holds; last = ceiling_is fresh_holds ∙ no_ceiling }

first_run : Reached torn_2 1 2 off (0 ∷ 1 ∷ [])
first_run =
    let t = raised (began begin) 2 (lit< tt) (lit< tt) (lit< tt) area_2 made_2 in
    ended (stopped (number (number t (lit< tt)) (lit< tt)) 9 (lit< tt) (lit< tt) (lit< tt) torn_2 7 (lit< tt) cut_2)

second_run : Reached torn_6 3 6 off (0 ∷ 1 ∷ 2 ∷ 3 ∷ 4 ∷ [])
second_run =
    let t = number (raised (began first_run) 3 (lit< tt) (lit< tt) (lit< tt) area_3 made_3) (lit< tt) in
    let u = number (number (raised t 6 (lit< tt) (lit< tt) (lit< tt) area_6 made_6) (lit< tt)) (lit< tt) in
    ended (stopped u 9 (lit< tt) (lit< tt) (lit< tt) torn_6 7 (lit< tt) cut_6)

pub example_history : ExampleHistory
unfolding torn_6
example_history = second_run.history
