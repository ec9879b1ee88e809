use Rattle.histories.proofs.Closing.{next_goes_on, next_is_above}
use Rattle.histories.proofs.hands_out.Goals as goal

pub returns : goal.returns
returns c = record {
  history = next_goes_on _ _ _ c.next.ensures;
  above = next_is_above _ _ _ c.next.ensures;
}
