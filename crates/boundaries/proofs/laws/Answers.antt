use native.Mathlib.Omega.{arith}
use Rattle.boundaries.proofs.Canonical.{recordable, canonical}
use Rattle.boundaries.proofs.laws.Goals as goal

pub returns : goal.returns
returns c = (recordable, canonical _ (λ i. omega (arith, c.type_inv.body i)))
