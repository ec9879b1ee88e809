-- What a usable region has. Assumes nothing.
use mathlib.Core.Path.{◌≡◌}
use mathlib.Core.Bool.{true, and-eq-true_iff}
use Prim.Native.Nat.{◌+◌, ◌%◌, ◌≤◌}
use native.Mathlib.Omega.{arith}
use lib.Pow.{pow_mono}
use borrow.Author.Tests.{leb-true, eqb-true}
use Rattle.region.specs.declared.Region.{Region}
use Rattle.region.specs.Region.{size_of, usable}
use Rattle.region.proofs.Sizes.{size_power}

pub record Usable (r : Region) : Type 0 where
  pub named : 1 ≤ r.code
  pub small : r.code ≤ 5
  pub aligned : r.base % size_of r.code ≡ 0
  pub least : 4096 ≤ size_of r.code
  pub most : size_of r.code ≤ 65536

pub usable_has : (r : Region) → usable r ≡ true → Usable r
unfolding usable
usable_has r e =
    let n = r.code in
    let p = (and-eq-true_iff _ _).0 e in
    let q = (and-eq-true_iff _ _).0 p.0 in
    let a = leb-true 1 n q.0 in
    let b = leb-true n 5 q.1 in
    let s = size_power n a (omega arith) in
    record {
      named = a;
      small = b;
      aligned = eqb-true _ 0 p.1;
      least = rw s (pow_mono {i = 12} {j = 11 + n} (omega arith));
      most = rw s (pow_mono {i = 11 + n} {j = 16} (omega arith));
    }
