use Rattle.service.proofs.Changing.{only_restored}
use Rattle.service.proofs.Registers.{words_back, registers_back}
use Rattle.service.proofs.Segments.{segments_back}
use Rattle.service.proofs.back.Goals as goal

pub returns : goal.returns
returns c = record {
  words = words_back;
  registers = registers_back;
  segments = segments_back;
  restored = only_restored;
}
