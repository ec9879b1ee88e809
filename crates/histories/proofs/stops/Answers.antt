use native.Mathlib.Omega.{arith}
use Rattle.histories.proofs.Closing.{part_goes_on, part_kept}
use Rattle.histories.proofs.stops.Goals as goal

pub returns : goal.returns
returns c = record {
  history = part_goes_on _ _ _ c.args.value (omega arith) _ c.raise_part-answer.ensures;
  promise = part_kept _ _ _ c.args.value (omega arith) _ c.restart.ensures _ c.raise_part-answer.ensures;
}
