use Rattle.levels.proofs.Levels.{origin_recorded, returns_through, nothing_nests}
use Rattle.levels.proofs.header.Goals as goal

pub returns : goal.returns
returns c = record {
  origin = origin_recorded;
  through = returns_through;
  none = nothing_nests;
}
