-- The sheet holds, and asks for no more than it says. Assumes nothing.
use Rattle.bench.proofs.Sheet.{sheet_holds, armed_asked, before_asked}
use Rattle.bench.proofs.theorem.Goals as goal

pub returns : goal.returns
returns c = record {
  holds = sheet_holds;
  armed = armed_asked;
  before = before_asked;
}
