use Rattle.config.proofs.Numbers.{other_ports, port_of_index, port_of_data, internal_by_number}
use Rattle.config.proofs.raw_numbers.Goals as goal

pub returns : goal.returns
returns c = record {
  others = other_ports;
  index = port_of_index;
  «data» = port_of_data;
  internal = internal_by_number;
}
