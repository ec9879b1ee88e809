use mathlib.Core.Path.{◌≡◌, ap, ◌∙◌}
use Prim.Native.Nat.{min}
use native.Mathlib.Omega.{arith}
use lib.ListN.{take, drop}
use Rattle.fields.proofs.Laws.{part_is}
use Rattle.fields.proofs.number_at.Goals as goal

pub returns : goal.returns
returns c =
    let a = c.args in
    let n : c.from.result ≡ min a.count 8 = c.from.ensures ∙ c.min.ensures in
    let p = part_is a.s.now c.part.result.now a.at (min a.count 8) (omega arith) (λ i. omega (arith, c.type_inv.s i))
    (c.part.ensures ∙ ap (λ k. take k (drop a.at a.s.now)) n) in
    record {
      value = c.joined.ensures ∙ p.0;
      bounded = rw c.joined.ensures p.1;
    }
