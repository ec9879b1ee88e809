use native.Mathlib.Omega.{arith}
use Prim.Native.Nat.{◌+◌}
use Rattle.region.proofs.Zeros.{zeros}
use Rattle.region.proofs.Sizes.{size_power}
use Rattle.region.proofs.is_aligned.Goals as goal

pub returns : goal.returns
returns c =
    let n = c.args.code in
    rw (c.from.ensures, size_power n (omega arith) (omega arith)) (zeros (11 + n) 32 c.args.base (omega arith))
