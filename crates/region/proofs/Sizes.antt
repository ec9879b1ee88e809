-- The sizes that the codes name. Assumes nothing.
use mathlib.Core.Path.{◌≡◌, sym, ◌∙◌}
use Prim.Native.Nat.{ℕ, ◌+◌, ◌*◌, ◌^◌, ◌%◌, ◌-◌, ◌≤◌}
use native.Mathlib.Omega.{arith}
use lib.Dec.{lit<}
use lib.Pow.{pow-add, pow_mono, shl_exact}
use borrow.Author.Tests.{ne_eqb, le-leb}
use Rattle.region.specs.Region.{size_of}

-- a power of two, for the codes 1 to 14
pub size_power : (n : ℕ) → 1 ≤ n → n ≤ 14 → size_of n ≡ 2 ^ (11 + n)
unfolding size_of
size_power n h k =
    let e : 11 + n ≡ 12 + (n - 1) = omega arith in
    rw (ne_eqb n 0 (λ z. omega arith), le-leb n 14 k, e, pow-add 2 12 (n - 1))

-- the shift that makes it loses no bit
pub size_shifted : (n : ℕ) → 1 ≤ n → n ≤ 14 → 4096 * 2 ^ (n - 1) % 18446744073709551616 ≡ size_of n
size_shifted n h k =
    let e : 11 + n ≡ 12 + (n - 1) = omega arith in
    shl_exact 13 (n - 1) 64 (lit< tt) (omega arith) ∙ sym (size_power n h k ∙ rw (e, pow-add 2 12 (n - 1)))

pub size_small : (n : ℕ) → 1 ≤ n → n ≤ 14 → size_of n ≤ 33554432
size_small n h k = rw (size_power n h k) (pow_mono {i = 11 + n} {j = 25} (omega arith))
