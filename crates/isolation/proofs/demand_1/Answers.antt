use Rattle.isolation.proofs.Refusals.{refused_as_called_for, refusal_changes_nothing}
use Rattle.isolation.proofs.Examples.{refusal_examples}
use Rattle.isolation.proofs.demand_1.Goals as goal

pub returns : goal.returns
returns c = record {
  refused = refused_as_called_for;
  unchanged = refusal_changes_nothing;
  examples = refusal_examples;
}
