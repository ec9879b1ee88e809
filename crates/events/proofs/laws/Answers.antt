use Rattle.events.proofs.Packing.{taken_apart}
use Rattle.events.proofs.laws.Goals as goal

pub returns : goal.returns
returns c = taken_apart
