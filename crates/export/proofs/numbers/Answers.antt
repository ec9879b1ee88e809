use mathlib.Core.Path.{refl}
use Rattle.events.specs.Events.{noted}
use Rattle.export.proofs.numbers.Goals as goal

pub returns : goal.returns
unfolding noted
returns c = refl
