use Rattle.region.specs.Region.{size_of, within}
use Rattle.region.proofs.Masks.{masked_is}
use Rattle.region.proofs.Sizes.{size_power}
use Rattle.region.proofs.Usable.{usable_has}
use mathlib.Core.Path.{◌≡◌, sym, ap, ◌∙◌}
use Prim.Native.Nat.{◌+◌, ◌-◌, ◌%◌}
use native.Mathlib.Omega.{arith}
use Rattle.region.proofs.Region.contains.Goals as goal

pub overflow_sub-result : goal.overflow_sub-result
overflow_sub-result c = omega (arith, (usable_has _ (sym c.is_usable.ensures ∙ c.if-is_usable.true)).least, c.size_of.ensures.value)

pub returns-then-is_usable : goal.returns-then-is_usable
unfolding within
returns-then-is_usable c =
    let g = c.args in
    let n = 11 + g.self.code in
    let size = c.size_of.result in
    let e = sym c.is_usable.ensures ∙ c.if-is_usable.true in
    let u = usable_has g.self e in
    let p = size_power g.self.code u.named (omega (arith, u.small)) in
    let m : 18446744073709551615 - (size - 1) ≡ 18446744073709551616 - size_of g.self.code = omega (arith, u.least) in
    simp (e, m, p, c.from.ensures) (masked_is 64 n g.address g.self.base (omega arith) (omega arith) (ap (λ s. g.self.base % s) (sym p) ∙ u.aligned))
