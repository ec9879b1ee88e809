use Rattle.std.proofs.Common.{arith}
use Rattle.lines.proofs.Storing.{no_line, line_turn}
use Rattle.lines.proofs.put_lines.Goals as goal

pub loop-event-init : goal.loop-event-init
loop-event-init c = (omega arith, no_line _)

pub loop-event-preserved : goal.loop-event-preserved
loop-event-preserved c =
    (omega arith, line_turn _ _ c.loop-event-test.true c.loop-event.invariant.1 c.put_line-at.ensures.stored)
