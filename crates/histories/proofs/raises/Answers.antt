use native.Mathlib.Omega.{arith}
use Rattle.histories.proofs.Closing.{raise_goes_on, raise_kept, first_raise}
use Rattle.histories.proofs.raises.Goals as goal

pub returns : goal.returns
returns c = record {
  history = raise_goes_on _ _ _ c.args.value (omega arith) c.raise-answer.ensures;
  promise = raise_kept _ _ _ c.args.value (omega arith) _ c.restart.ensures c.raise-answer.ensures;
  first = first_raise _ _ _ c.args.value (omega arith) _ c.restart.ensures c.raise-answer.ensures;
}
