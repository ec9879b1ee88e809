-- Regions at the end of the address space. Assumes nothing.
use mathlib.Core.Path.{◌≡◌, sym, ap, ◌∙◌}
use Prim.Native.Nat.{ℕ, suc, ◌+◌, ◌-◌, ◌*◌, ◌%◌, ◌^◌, ◌≤◌, ◌<◌}
use native.Mathlib.Nat.{div-add-mod', div-lt_iff_lt-mul, mul-le-mul_right, suc-mul, mul-mod_left, le_of_suc-le-suc}
use native.Mathlib.Omega.{arith}
use lib.Pow.{pow_pos, high_ones}
use borrow.Author.Tests.{le-leb, eq-eqb}
use Rattle.region.specs.declared.Region.{Region}
use Rattle.region.specs.Region.{size_of, usable, within}
use Rattle.region.specs.Ends.{space_end, NoneAbove, last_region, LastReaches}
use Rattle.region.proofs.Laws.{outside_is}
use Rattle.region.proofs.Sizes.{size_power, size_small}
use Rattle.region.proofs.Usable.{usable_has}

module _ (n : ℕ) (named : 1 ≤ n) (small : n ≤ 14) where
  -- which multiple of the size the last region's base is
  times : ℕ
  times = 2 ^ (21 - n) - 1

  last_base : 4294967296 - size_of n ≡ times * size_of n
  unfolding times
  last_base =
      let e : (21 - n) + (11 + n) ≡ 32 = omega arith in
      rw (size_power n named small) (ap (λ (x : ℕ). 2 ^ x - 2 ^ (11 + n)) (sym e) ∙ high_ones (21 - n) (11 + n))

  positive : 0 < size_of n
  positive = rw (size_power n named small) (pow_pos (11 + n))

  -- a region before 2 ^ 32 ends there at the latest
  room : (b : ℕ) → b % size_of n ≡ 0 → b < 4294967296 → b + size_of n ≤ 4294967296
  room b d h =
      let s = size_of n in
      let f = size_small n named small in
      let l : b < suc times * s = omega (arith, last_base, suc-mul times s) in
      let m = mul-le-mul_right s (le_of_suc-le-suc ((div-lt_iff_lt-mul {k = s} {x = b} {y = suc times} positive).1 l)) in
      omega (arith, last_base, div-add-mod' b s)

pub none_above : (r : Region) (a : ℕ) → r.base < 4294967296 → NoneAbove r a
none_above r a l h = outside_is r a (λ w.
    let u = usable_has r w.in_usable in
    omega (arith, w.high, room r.code u.named (omega (arith, u.small)) r.base u.aligned l))

pub last_reaches : LastReaches
unfolding within usable
last_reaches n a l h =
    let k : n ≤ 14 = omega (arith, h) in
    let p = positive n l k in
    let f = size_small n l k in
    let b : (last_region n).base ≡ times n l k * size_of n = omega (arith, last_base n l k) in
    let d = eq-eqb ((last_region n).base % size_of n) 0 (ap (λ (x : ℕ). x % size_of n) b ∙ mul-mod_left (times n l k) (size_of n)) in
    let e : (last_region n).base + size_of n ≡ space_end = omega arith in
    simp (le-leb 1 n l, le-leb n 5 h, d, e)
