use Rattle.region.proofs.Ends.{none_above, last_reaches}
use native.Mathlib.Omega.{arith}
use Rattle.region.proofs.limits.Goals as goal

pub returns : goal.returns
returns c = record {
  above = none_above c.args.region c.args.address (omega arith);
  last = last_reaches;
}
