use Rattle.replays.proofs.Example.{firmware_example, firmware_texts}
use Rattle.replays.proofs.demand_3_example.Goals as goal

pub returns : goal.returns
returns c = record {
  firmware = firmware_example _;
  texts = firmware_texts;
}
