use mathlib.Core.Path.{sym, ap, ◌∙◌}
use Rattle.journal_export.specs.Export.{started_result}
use Rattle.journal_export.proofs.Results.{restart_bit}
use Rattle.journal_export.proofs.rostuvlad_journal_restart.Goals as goal

pub returns-in_default-clause-refused : goal.returns-in_default-clause-refused
returns-in_default-clause-refused c = ap started_result (sym c.in_default.is ∙ c.restart.ensures) ∙ restart_bit _

pub returns-clause-refused : goal.returns-clause-refused
returns-clause-refused c = ap started_result (sym c.in-Ok.is ∙ c.restart.ensures) ∙ restart_bit _
