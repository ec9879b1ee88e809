use Rattle.memory.proofs.Laws.{read_whole}
use Rattle.fields.proofs.Laws.{fits}
use native.Mathlib.Omega.{arith}
use mathlib.Core.Bool.{true, false}
use Prim.Native.Nat.{min}
use Rattle.memory.proofs.read.Goals as goal

pub overflow_cast-result : goal.overflow_cast-result
overflow_cast-result c = omega (arith, fits c.number_at.result (min c.min-count.result 8) 4 (omega arith) c.number_at.ensures.bounded)

pub overflow_cast-result-in-Some-Management : goal.overflow_cast-result-in-Some-Management
overflow_cast-result-in-Some-Management c =
    omega (arith, fits c.number_at-in-Some-Management.result (min c.min-count.result 8) 4 (omega arith) c.number_at-in-Some-Management.ensures.bounded)

pub returns-in-Some-Main : goal.returns-in-Some-Main
returns-in-Some-Main c =
    read_whole _ _ false _ _ _ _ _ _ c.min-count.ensures (rw (c.in-Some-Main.field-0-is, ← c.in-Some-Main.k-is) at c.in-Some-Main.ensures) c.number_at.ensures.value

pub returns-in-Some-Management : goal.returns-in-Some-Management
returns-in-Some-Management c =
    read_whole _ _ true _ _ _ _ _ _ c.min-count.ensures (rw (c.in-Some-Management.field-0-is, ← c.in-Some-Management.k-is) at c.in-Some-Management.ensures)
    c.number_at-in-Some-Management.ensures.value
