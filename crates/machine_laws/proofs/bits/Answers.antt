use Rattle.machine_laws.proofs.Valid.{valid_by_bits, ports_by_config}
use Rattle.machine_laws.proofs.bits.Goals as goal

pub returns : goal.returns
returns c = record {
  valid = valid_by_bits;
  ports = ports_by_config;
}
