use Rattle.std.proofs.Common.{refl, append-nil, arith}
use Rattle.std.proofs.Math.ListN.{length-set}
use Rattle.lines.proofs.Digits.{digit_turn, digits_end}
use Rattle.lines.proofs.hex.Goals as goal

pub loop-i-init : goal.loop-i-init
loop-i-init c = (refl, append-nil _)

pub loop-i-preserved : goal.loop-i-preserved
loop-i-preserved c = let l = c.loop-i in
    (simp length-set l.invariant.0, digit_turn _ _ _ _ _ c.loop-i-test.true (omega arith) c.digit.ensures l.invariant.1)

pub returns : goal.returns
returns c = digits_end _ _ _ _ (omega arith) c.loop-i.invariant.1
