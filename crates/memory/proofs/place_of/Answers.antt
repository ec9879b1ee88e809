use Rattle.region.proofs.Laws.{within_has}
use mathlib.Core.Path.{sym, ◌∙◌}
use Rattle.memory.proofs.place_of.Goals as goal

pub overflow_sub-result : goal.overflow_sub-result
overflow_sub-result c = (within_has _ _ (sym c.contains.ensures ∙ c.if-contains.true)).low
