use Rattle.machine_laws.proofs.Cells.{whole_by_cells, reads_by_cells, writes_by_cells, operands_by_cells}
use Rattle.machine_laws.proofs.accesses.Goals as goal

pub returns : goal.returns
returns c = record {
  whole = whole_by_cells;
  reads = reads_by_cells;
  writes = writes_by_cells;
  operands = operands_by_cells;
}
