use native.Mathlib.Omega.{arith}
use Rattle.histories.proofs.Closing.{raise_held}
use Rattle.histories.proofs.raises_around.Goals as goal

pub returns : goal.returns
returns c = raise_held _ _ _ c.args.value (omega arith) _ c.restart.ensures _ c.restart-before.ensures c.raise-answer.ensures
