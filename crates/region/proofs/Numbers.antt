-- Regions by raw numbers. Assumes nothing.
use mathlib.Core.Path.{◌≡◌, refl}
use mathlib.Core.Bool.{◌&&◌}
use Prim.Native.Nat.{ℕ, zero, suc, ◌+◌, ◌%◌}
use native.Mathlib.Omega.{arith}
use lib.Dec.{eqb, leb, ltb}
use borrow.Author.Tests.{le-leb, lt-leb}
use Rattle.region.specs.Region.{region_of, size_of, largest_code, usable, within}
use Rattle.region.specs.Numbers.{SmarReadBack, usable_size, UsableBySize, SizesListed}

pub smar_read_back : SmarReadBack
unfolding region_of
smar_read_back high middle low = (omega arith, omega arith, omega arith)

-- code by code; n + 6 is any above 5
by_code : (n b a : ℕ)
    → let u = leb 1 n && leb n largest_code && eqb (b % size_of n) 0 in
    (u ≡ (ltb 0 (usable_size n) && eqb (b % usable_size n) 0)) × ((u && leb b a && ltb a (b + size_of n)) ≡ (u && leb b a && ltb a (b + usable_size n)))
unfolding size_of
by_code zero b a = (refl, refl)
by_code (suc zero) b a = (refl, refl)
by_code (suc (suc zero)) b a = (refl, refl)
by_code (suc (suc (suc zero))) b a = (refl, refl)
by_code (suc (suc (suc (suc zero)))) b a = (refl, refl)
by_code (suc (suc (suc (suc (suc zero))))) b a = (refl, refl)
by_code (suc (suc (suc (suc (suc (suc n)))))) b a =
    let m = suc (suc (suc (suc (suc (suc n))))) in
    rw (le-leb 1 m (omega arith), lt-leb m 5 (omega arith)) (refl, refl)

pub usable_by_size : UsableBySize
unfolding usable within
usable_by_size r a = by_code r.code r.base a

pub sizes_listed : SizesListed
unfolding size_of
sizes_listed = refl
