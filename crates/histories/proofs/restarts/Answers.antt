use Rattle.histories.proofs.Closing.{restart_goes_on, restart_kept, restart_held}
use Rattle.histories.proofs.restarts.Goals as goal

pub returns : goal.returns
returns c = record {
  history = restart_goes_on _;
  promise = restart_kept _ _ c.restart.ensures;
  held = restart_held _ _ c.restart.ensures;
}
