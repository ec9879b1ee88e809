use Rattle.opcodes.proofs.Listed.{as_table}
use native.Mathlib.Omega.{arith}
use Rattle.opcodes.proofs.by_table.Goals as goal

pub returns : goal.returns
returns c = as_table c.args.edition c.args.opcode c.args.modrm (omega arith)
