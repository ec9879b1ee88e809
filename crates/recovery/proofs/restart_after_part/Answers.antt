use native.Mathlib.Omega.{arith}
use Rattle.recovery.proofs.Raising.{part_found}
use Rattle.recovery.proofs.restart_after_part.Goals as goal

pub returns : goal.returns
returns c = λ w. part_found _ _ _ c.args.value (omega arith) _ c.restart.ensures w _ c.raise_part-answer.ensures
