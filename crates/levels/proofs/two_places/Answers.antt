use Rattle.levels.proofs.Nested.{levels_example}
use Rattle.levels.proofs.Levels.{both_stand, both_return}
use Rattle.levels.proofs.two_places.Goals as goal

pub returns : goal.returns
returns c = record {
  stand = both_stand;
  back = both_return;
  example = levels_example;
}
