use mathlib.Core.Path.{sym, ap, ◌∙◌}
use Rattle.journal_export.specs.Export.{handed_result}
use Rattle.journal_export.proofs.Results.{next_bit}
use Rattle.journal_export.proofs.rostuvlad_journal_next.Goals as goal

pub returns-in_default-clause-refused : goal.returns-in_default-clause-refused
returns-in_default-clause-refused c = ap handed_result (sym c.in_default.is ∙ c.next.ensures) ∙ next_bit _ _

pub returns-clause-refused : goal.returns-clause-refused
returns-clause-refused c = ap handed_result (sym c.in-Ok.is ∙ c.next.ensures) ∙ next_bit _ _
