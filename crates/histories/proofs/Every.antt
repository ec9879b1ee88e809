-- Every history keeps its promise. Assumes nothing.
use mathlib.Core.Path.{◌≡◌, refl, sym, ap}
use mathlib.Core.Bool.{Bool, true, false, cond, ◌&&◌}
use mathlib.Core.List.{List, [], ◌∷◌, ◌++◌}
use Prim.Native.Nat.{ℕ, zero, suc, ◌+◌, ◌*◌, ◌<◌, ◌≤◌}
use native.Mathlib.Omega.{arith}
use borrow.Author.Tests.{ltb-true}
use lib.Dec.{ltb}
use lib.ListN.{length, get_or, replicate}
use Rattle.std.proofs.lemmas.Bool.{and_parts}
use Rattle.fields.specs.Fields.{number_by, field_at}
use Rattle.slots.specs.Area.{area_size, well_formed, ceiling}
use Rattle.slots.proofs.Holding.{Holds, formed}
use Rattle.journal.specs.declared.Counter.{Counter}
use Rattle.std.specs.Prelude.{Ok, Err}
use Rattle.journal.specs.Stores.{store_count}
use Rattle.journal.specs.Answers.{Handed, counter, refused, restart_of, next_of}
use Rattle.journal.proofs.Answering.{part_whole}
use Rattle.recovery.specs.Cuts.{Finds}
use Rattle.recovery.proofs.Raising.{Kept, part_keeps, raise_survives}
use Rattle.histories.specs.Histories.{Run, off, on, History, fresh, restart, next, raise, part, power_off, StrictlyRising, EveryHistory}
use Rattle.histories.proofs.Lists.{AllBelow, below_higher, below_last, rises_last}

-- ---- what the answers tell

pub ready : (a : List ℕ) → well_formed a ≡ true → Finds a (ceiling a)
unfolding restart_of
ready a w = rw w

record Handing (a : List ℕ) (c : Counter) (n : ℕ) (c' : Counter) : Type 0 where
  pub number : n ≡ c.next
  pub then : c'.next ≡ c.next + 1
  pub low : c.next < ceiling a

hands : (a : List ℕ) (c : Counter) (n : ℕ) (c' : Counter) → next_of c a ≡ Ok (n, c') → Handing a c n c'
unfolding next_of
hands a c n c' = by (well_formed a && ltb c.next (ceiling a)) refl
  where
    by : (b : Bool) → well_formed a && ltb c.next (ceiling a) ≡ b
        → cond {A = Handed} b (Ok (c.next, counter (c.next + 1))) (Err refused) ≡ Ok (n, c') → Handing a c n c'
    by true q e = let p : ◌≡◌ {A = ℕ × Counter} (c.next, counter (c.next + 1)) (n, c') = cc in record {
      number = sym (ap (λ (x : ℕ × Counter). x.0) p);
      then = sym (ap (λ (x : ℕ × Counter). x.1.next) p);
      low = ltb-true c.next (ceiling a) (and_parts (well_formed a) (ltb c.next (ceiling a)) q).1;
    }
    by false q e = cc

-- ---- what a history keeps

-- all numbers from now on are at least this
abbrev bound : List ℕ → Run → ℕ
bound a off = ceiling a
bound a (on c) = c.next

record Good (a : List ℕ) (r : Run) (ns : List ℕ) : Type 0 where
  pub formed : well_formed a ≡ true
  pub low : bound a r ≤ ceiling a
  pub below : AllBelow ns (bound a r)
  pub rises : StrictlyRising ns

abbrev zeros : ℕ → List ℕ
zeros n = replicate n 0

length_zeros : (n : ℕ) → length (zeros n) ≡ n
length_zeros zero = refl
length_zeros (suc n) = ap suc (length_zeros n)

byte_zero : (n i : ℕ) → get_or (zeros n) i 0 ≡ 0
byte_zero zero i = refl
byte_zero (suc n) zero = refl
byte_zero (suc n) (suc i) = byte_zero n i

field_zero : (n p w : ℕ) → field_at (zeros n) p w ≡ 0
unfolding number_by
field_zero n p zero = refl
field_zero n p (suc w) = omega (arith, byte_zero n p, field_zero n (p + 1) w)

pub fresh_holds : Holds (zeros area_size) 0
fresh_holds = record {
  size = length_zeros area_size;
  fits = omega arith;
  takes = λ k l. absurd (omega arith);
  kinds = λ k l. absurd (omega arith);
  rises = λ k l. absurd (omega arith);
  frees = λ k l m. field_zero area_size (12 * k + 0) 2;
}

-- an area that follows, with a ceiling that is no lower
stays_on : {a b : List ℕ} {ns : List ℕ} → Kept a b → (c : Counter) → Good a (on c) ns → Good b (on c) ns
stays_on k c g = record { formed = k.formed; low = omega (arith, g.low, k.grows); below = g.below; rises = g.rises }

history_good : {a : List ℕ} {r : Run} {ns : List ℕ} → History a r ns → Good a r ns
history_good fresh = record { formed = formed fresh_holds; low = omega arith; below = λ i l. absurd (omega arith); rises = λ i j l o. absurd (omega arith) }
history_good (restart {a} {r} {ns} {c} h e) =
    let g = history_good h in
    let f : c ≡ counter (ceiling a) = let r = ready a g.formed in cc in
    let b : c.next ≡ ceiling a = ap (λ (x : Counter). x.next) f in
    record {
      formed = g.formed;
      low = omega arith;
      below = below_higher ns (bound a r) c.next (omega (arith, g.low, b)) g.below;
      rises = g.rises;
    }
history_good (next {a} {c} {c'} {ns} {n} h e) =
    let g = history_good h in
    let t = hands a c n c' e in
    let f : AllBelow ns n = rw t.number g.below in
    record {
      formed = g.formed;
      low = omega (arith, t.then, t.low);
      below = below_higher (ns ++ (n ∷ [])) (n + 1) c'.next (omega (arith, t.number, t.then)) (below_last ns n f);
      rises = rises_last ns n f g.rises;
    }
history_good (raise {a} {c} {ns} v w h) = let g = history_good h in rw (← part_whole a v store_count (omega arith)) (stays_on (part_keeps a v g.formed (omega arith) store_count) c g)
history_good (part {a} {c} {ns} v n w h) = let g = history_good h in stays_on (part_keeps a v g.formed (omega arith) n) c g
history_good (power_off {a} {r} {ns} h) =
    let g = history_good h in
    record { formed = g.formed; low = omega arith; below = below_higher ns (bound a r) (ceiling a) g.low g.below; rises = g.rises }

pub every_history : EveryHistory
every_history a r ns h =
    let g = history_good h in
    record { restarts = ready a g.formed; raises = λ v w. raise_survives a v g.formed (omega arith); rises = g.rises }
