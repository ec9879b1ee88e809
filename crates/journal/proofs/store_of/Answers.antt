use mathlib.Core.Path.{◌∙◌}
use Rattle.journal.proofs.Bytes.{kind_bytes, store_kind, store_ceiling, store_length}
use Rattle.journal.proofs.store_of.Goals as goal

pub returns-then-i-lt2 : goal.returns-then-i-lt2
returns-then-i-lt2 c = store_kind _ c.args.value _ _ (c.to_le_bytes.ensures ∙ kind_bytes) c.if-i-lt2.true

pub returns-then-i-lt10 : goal.returns-then-i-lt10
returns-then-i-lt10 c = store_ceiling _ _ _ _ c.to_le_bytes-then-i-lt10.ensures c.if-i-lt2.false c.if-i-lt10.true

pub returns-else-i-lt10 : goal.returns-else-i-lt10
returns-else-i-lt10 c = store_length _ c.args.value _ c.if-i-lt10.false (c.requires.1)
