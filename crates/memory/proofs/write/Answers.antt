use Rattle.memory.proofs.Laws.{written_whole}
use mathlib.Core.Bool.{true, false}
use Rattle.memory.proofs.write.Goals as goal

pub returns-in-Some-Main : goal.returns-in-Some-Main
returns-in-Some-Main c =
    written_whole _ _ false _ _ _ _ _ _ (rw (c.in-Some-Main.field-0-is, ← c.in-Some-Main.k-is) at c.in-Some-Main.ensures) c.store_at.ensures

pub returns-in-Some-Management : goal.returns-in-Some-Management
returns-in-Some-Management c =
    written_whole _ _ true _ _ _ _ _ _ (rw (c.in-Some-Management.field-0-is, ← c.in-Some-Management.k-is) at c.in-Some-Management.ensures) c.store_at-in-Some-Management.ensures
