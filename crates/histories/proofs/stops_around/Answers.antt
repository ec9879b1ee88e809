use native.Mathlib.Omega.{arith}
use Rattle.histories.proofs.Closing.{part_held}
use Rattle.histories.proofs.stops_around.Goals as goal

pub returns : goal.returns
returns c = part_held _ _ _ c.args.value (omega arith) _ c.restart.ensures _ c.restart-before.ensures _ c.raise_part-answer.ensures
