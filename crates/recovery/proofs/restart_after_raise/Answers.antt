use native.Mathlib.Omega.{arith}
use Rattle.recovery.proofs.Raising.{raise_found}
use Rattle.recovery.proofs.restart_after_raise.Goals as goal

pub returns : goal.returns
returns c = λ w. raise_found _ _ _ c.args.value (omega arith) _ c.restart.ensures w c.raise-answer.ensures
