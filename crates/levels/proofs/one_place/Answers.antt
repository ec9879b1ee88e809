use Rattle.levels.proofs.Nested.{nested_example}
use Rattle.levels.proofs.Levels.{overwritten, never_out}
use Rattle.levels.proofs.one_place.Goals as goal

pub returns : goal.returns
returns c = record {
  overwritten = overwritten;
  never = never_out;
  example = nested_example;
}
