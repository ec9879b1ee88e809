use Rattle.service.proofs.Asked.{leaves_no_mark}
use Rattle.service.proofs.request_14.Goals as goal

pub returns : goal.returns
returns c = leaves_no_mark
