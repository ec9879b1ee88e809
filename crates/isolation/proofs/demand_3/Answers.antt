use Rattle.isolation.proofs.Isolation.{isolated, same_answers}
use Rattle.isolation.proofs.Examples.{isolation_examples}
use Rattle.isolation.proofs.demand_3.Goals as goal

pub returns : goal.returns
returns c = record {
  isolated = isolated;
  answers = same_answers;
  examples = isolation_examples;
}
