use Rattle.trace.proofs.Agreeing.{kinds_agree}
use Rattle.trace.proofs.Formerly.{found_as_formerly}
use Rattle.trace.proofs.laws.Goals as goal

pub returns : goal.returns
returns c = record {
  kinds = kinds_agree;
  formerly = found_as_formerly;
}
