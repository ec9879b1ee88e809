use Rattle.runs.proofs.Turns.{steps_in_turn}
use Rattle.runs.proofs.laws.Goals as goal

pub returns : goal.returns
returns c = steps_in_turn
