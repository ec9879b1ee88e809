use Rattle.memory.proofs.Laws.{store_turn, store_none}
use native.Mathlib.Omega.{arith}
use mathlib.Core.Path.{sym, ◌∙◌}
use Rattle.memory.proofs.store_at.Goals as goal

pub loop-at-preserved : goal.loop-at-preserved
loop-at-preserved c = store_turn _ _ _ _ _ _ _ _ (omega arith) c.store_byte.ensures c.loop-at.invariant

pub returns : goal.returns
returns c = sym (store_none _ _ _ _ _ (omega arith)) ∙ c.loop-at.invariant
