use Rattle.service_example.proofs.Example.{service_example, past_inner_example}
use Rattle.service_example.proofs.examples.Goals as goal

pub returns : goal.returns
returns c = record {
  service = service_example;
  past = past_inner_example;
}
