use mathlib.Core.Path.{◌≡◌}
use Prim.Native.Nat.{◌+◌, ◌*◌, ◌/◌, ◌%◌}
use native.Mathlib.Omega.{arith}
use lib.Bits.{bit_and}
use Rattle.std.proofs.lemmas.Nat.{and_mask}
use Rattle.std.proofs.lemmas.Nat.Bits.{and_high_mask}
use Rattle.region.specs.Region.{region_of}
use Rattle.region.proofs.region_of.Goals as goal

pub returns : goal.returns
unfolding region_of
returns c =
    let low = c.args.low in
    let upper : bit_and low 240 ≡ low / 16 * 16 = and_high_mask 8 4 (omega arith) low (omega arith) in
    let lower : bit_and low 15 ≡ low % 16 = and_mask low 4 in
    let base : c.from_be_bytes.result ≡ c.args.high * 16777216 + c.args.middle * 65536 + low / 16 * 4096 = omega (arith, upper, c.from_be_bytes.ensures) in
    λ k. record { base = base k; code = lower k }
