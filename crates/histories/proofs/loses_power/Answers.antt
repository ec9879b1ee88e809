use Rattle.histories.specs.Histories.{power_off}
use Rattle.histories.proofs.loses_power.Goals as goal

pub returns : goal.returns
returns c = λ r ns h. power_off h
