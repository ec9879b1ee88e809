use native.Mathlib.Omega.{arith}
use Rattle.journal.proofs.Bytes.{made_none, made_turn, made_all}
use Rattle.journal.proofs.store_all.Goals as goal

pub loop-i-init : goal.loop-i-init
loop-i-init c = record { power = omega arith; made = made_none c.args.area.now c.args.slot c.args.value c.args.power }

pub loop-i-preserved : goal.loop-i-preserved
loop-i-preserved c =
    let i = c.loop-i.invariant in
    let s = c.store_one-left.ensures in
    record {
      power = omega arith;
      made = made_turn _ _ _ _ _ _ _ _ _ (omega arith) i.made i.power c.store_of.ensures s.area;
    }

pub returns : goal.returns
returns c = made_all _ _ _ _ _ _ (omega arith) (omega arith) c.loop-i.invariant.made
