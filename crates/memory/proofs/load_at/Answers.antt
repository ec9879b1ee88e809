use Rattle.fields.proofs.Laws.{number_turn, number_none, number_all, grows, fits}
use lib.Dec.{lit<}
use native.Mathlib.Omega.{arith}
use native.Mathlib.Nat.{sub_self}
use Prim.Native.Nat.{◌-◌}
use mathlib.Core.Path.{◌≡◌, sym, ◌∙◌}
use Rattle.memory.proofs.load_at.Goals as goal

pub loop-i-init : goal.loop-i-init
loop-i-init c = record { bounded = rw sub_self (lit< tt); loaded = sym (number_none _ _ _) }

pub overflow_mul-value : goal.overflow_mul-value
overflow_mul-value c = let l = c.loop-i in omega (arith, fits l.value (c.args.count - l.i) 7 (omega arith) l.invariant.bounded)

pub overflow_add-value : goal.overflow_add-value
overflow_add-value c = let l = c.loop-i in omega (arith, fits l.value (c.args.count - l.i) 7 (omega arith) l.invariant.bounded)

pub loop-i-preserved : goal.loop-i-preserved
loop-i-preserved c =
    let l = c.loop-i in
    let n = c.args.count in
    let r = c.byte_at.result in record {
      bounded = omega (arith, grows l.value r n l.i c.loop-i-test.true (omega arith) l.invariant.bounded (omega arith));
      loaded = number_turn _ _ n l.i l.value r c.loop-i-test.true (omega arith) l.invariant.loaded c.byte_at.ensures;
    }

pub returns : goal.returns
returns c = let l = c.loop-i in
    let n = c.args.count in
    let e : n - l.i ≡ n = omega arith in
    record {
      value = l.invariant.loaded ∙ number_all _ _ _ _ (omega arith);
      bounded = rw e at l.invariant.bounded;
    }
