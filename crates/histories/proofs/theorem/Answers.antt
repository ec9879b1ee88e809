use Rattle.histories.proofs.Computed.{example_history}
use Rattle.histories.proofs.Closing.{none_twice}
use Rattle.histories.proofs.Every.{every_history}
use Rattle.histories.specs.Histories.{fresh}
use Rattle.histories.proofs.theorem.Goals as goal

pub returns : goal.returns
returns c = record {
  every = every_history;
  twice = none_twice;
  begins = fresh;
  example = example_history;
}
