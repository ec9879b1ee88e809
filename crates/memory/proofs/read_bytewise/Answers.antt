use native.Mathlib.Omega.{arith}
use Rattle.fields.proofs.Laws.{fits}
use Rattle.memory.proofs.read_bytewise.Goals as goal

pub overflow_cast-result : goal.overflow_cast-result
overflow_cast-result c = omega (arith, fits c.load_at.result c.args.count 4 (omega arith) c.load_at.ensures.bounded)
