use Rattle.service_example.proofs.Example.{header_example, mode_example, segments_example}
use Rattle.service_example.proofs.conditions.Goals as goal

pub returns : goal.returns
returns c = record {
  header = header_example;
  mode = mode_example;
  segments = segments_example;
}
