use mathlib.Core.Path.{ap, ◌∙◌}
use Rattle.journal_export.specs.Export.{raised_result}
use Rattle.journal_export.proofs.Results.{part_bit}
use Rattle.journal_export.proofs.rostuvlad_journal_raise_part.Goals as goal

pub returns : goal.returns
returns c = let left = c.raise_part.ensures in
    let result = c.raised_result.ensures ∙ ap (λ x. raised_result x.answer) left in
    record {
      result = result;
      refused = result ∙ part_bit _ _ _;
      area = ap (λ x. x.area) left;
    }
