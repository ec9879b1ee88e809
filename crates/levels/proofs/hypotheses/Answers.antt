use Rattle.levels.proofs.Asked.{stands_as_stored, through_settles, moved_asked}
use Rattle.levels.proofs.hypotheses.Goals as goal

pub returns : goal.returns
returns c = record {
  stands = stands_as_stored;
  through = through_settles;
  moved = moved_asked;
}
