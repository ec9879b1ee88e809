use native.Mathlib.Omega.{arith}
use Rattle.region.proofs.Sizes.{size_shifted}
use Rattle.region.proofs.size_of.Goals as goal

pub returns-in-1-to-14-clause-value : goal.returns-in-1-to-14-clause-value
returns-in-1-to-14-clause-value c = size_shifted c.args.code (omega arith) (omega arith)
