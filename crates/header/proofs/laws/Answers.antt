use Rattle.header.proofs.ReadBack.{table_fills, words_back, registers_back, nested_back}
use Rattle.header.proofs.laws.Goals as goal

pub returns : goal.returns
returns c = record {
  fills = table_fills;
  words = words_back;
  registers = registers_back;
  nested = nested_back;
}
