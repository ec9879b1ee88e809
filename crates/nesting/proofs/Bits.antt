-- N is bit 6 of a byte. Assumes nothing.
use mathlib.Core.Path.{◌≡◌}
use Prim.Native.Nat.{ℕ, ◌+◌, ◌*◌, ◌/◌, ◌%◌, ◌<◌}
use native.Mathlib.Omega.{arith}
use lib.Bits.{bit_and, bit_or, and_high}
use Rattle.std.proofs.lemmas.Nat.{and-not, and_comm, or_disjoint}

pub bit_6 : (x : ℕ) → bit_and x 0x40 ≡ x / 64 % 2 * 64
bit_6 x = and_high x 1 6

pub with_clear : (x : ℕ) → x < 256 → bit_and x 0xbf ≡ x / 128 * 128 + 64 * 0 + x % 64
with_clear x h = omega (arith, and-not 8 0x40 x (omega arith) h, and_comm x 0xbf, and_comm x 0x40, bit_6 x)

pub with_set : (x : ℕ) → x < 256 → bit_or (bit_and x 0xbf) 0x40 ≡ x / 128 * 128 + 64 * 1 + x % 64
with_set x h =
    let a = bit_and x 0xbf in
    let e : a ≡ x / 128 * 128 + 64 * 0 + x % 64 = with_clear x h in
    let apart : bit_and a 0x40 ≡ 0 = omega (arith, bit_6 a) in
    omega (arith, or_disjoint a 0x40 apart)
