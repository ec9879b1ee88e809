-- The results as bits. Assumes nothing.
use mathlib.Core.Path.{◌≡◌, refl}
use mathlib.Core.Bool.{Bool, true, false, cond, not, ◌&&◌}
use mathlib.Core.List.{List}
use Prim.Native.Nat.{ℕ}
use lib.Dec.{ltb}
use Rattle.fields.specs.Fields.{bit}
use Rattle.slots.specs.Area.{well_formed, ceiling}
use Rattle.std.specs.Prelude.{Ok, Err}
use Rattle.journal.specs.declared.Counter.{Counter}
use Rattle.journal.specs.Answers.{counter, refused, restart_of, next_of, refuses_raise, left, raise_of, raise_part_of}
use Rattle.journal_export.specs.Export.{started_result, handed_result, raised_result}

-- a result by a test: 0 where it holds, and 1 where it doesn't
by_test : {A : Type 0} (result : A → ℕ) (b : Bool) (x y : A) → result x ≡ 0 → result y ≡ 1 → result (cond b x y) ≡ bit (not b)
by_test result true x y e f = e
by_test result false x y e f = f

pub restart_bit : (a : List ℕ) → started_result (restart_of a) ≡ bit (not (well_formed a))
unfolding restart_of
restart_bit a = by_test started_result (well_formed a) (Ok (counter (ceiling a))) (Err refused) refl refl

pub next_bit : (c : Counter) (a : List ℕ) → handed_result (next_of c a) ≡ bit (not (well_formed a && ltb c.next (ceiling a)))
unfolding next_of
next_bit c a = by_test handed_result (well_formed a && ltb c.next (ceiling a)) _ (Err refused) refl refl

module _ (a : List ℕ) (v : ℕ) where
  refused_bit : (b : Bool) (l : List ℕ) → raised_result (cond b (left (Err refused) a) (left (Ok tt) l)).answer ≡ bit b
  refused_bit true l = refl
  refused_bit false l = refl

  pub raise_bit : raised_result (raise_of a v).answer ≡ bit (refuses_raise a v)
  unfolding raise_of
  raise_bit = refused_bit (refuses_raise a v) _

  pub part_bit : (n : ℕ) → raised_result (raise_part_of a v n).answer ≡ bit (refuses_raise a v)
  unfolding raise_part_of
  part_bit n = refused_bit (refuses_raise a v) _
