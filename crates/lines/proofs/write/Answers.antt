use Rattle.lines.proofs.Storing.{both}
use Rattle.lines.proofs.write.Goals as goal

pub returns : goal.returns
returns c = both (rw c.min.ensures at c.put_lines-at.ensures.stored) (rw c.word.ensures at c.put.ensures)
