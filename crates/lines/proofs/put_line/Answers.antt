use Rattle.lines.proofs.Storing.{line_stored}
use Rattle.lines.proofs.put_line.Goals as goal

pub returns-clause-stored : goal.returns-clause-stored
returns-clause-stored c =
    rw (← c.number_in.ensures, ← c.value_in.ensures) (line_stored _ _ c.put_decimal-gap.ensures.stored c.put-value.ensures (rw c.hex.ensures at c.put-end.ensures) c.put.ensures)
