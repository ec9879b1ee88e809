use Rattle.region.proofs.Numbers.{smar_read_back, usable_by_size, sizes_listed}
use Rattle.region.proofs.raw_numbers.Goals as goal

pub returns : goal.returns
returns c = record {
  smar = smar_read_back;
  usable = usable_by_size;
  sizes = sizes_listed;
}
