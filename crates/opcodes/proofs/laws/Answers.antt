use Rattle.opcodes.proofs.Bytes.{resumed_by, saved_by, cs_not_restored, seven_restored}
use Rattle.opcodes.proofs.Listed.{sized_by_bytes, allowed_by_bits}
use Rattle.opcodes.proofs.laws.Goals as goal

pub returns : goal.returns
returns c = record {
  rsm = resumed_by;
  saved = saved_by;
  cs = cs_not_restored;
  seven = seven_restored;
  sized = sized_by_bytes;
  allowed = allowed_by_bits;
}
