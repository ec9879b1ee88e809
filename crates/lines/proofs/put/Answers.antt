use Rattle.lines.proofs.Storing.{copied}
use Rattle.lines.proofs.put.Goals as goal

pub returns : goal.returns
returns c = copied _ _ _ _ c.requires c.copy_from_slice.ensures.after
