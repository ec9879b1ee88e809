use Prim.Native.Nat.{◌+◌, ◌-◌}
use mathlib.Core.Bool.{true, false, true≢false}
use mathlib.Core.Path.{sym, ◌∙◌}
use native.Mathlib.Omega.{arith}
use Rattle.region.proofs.Laws.{within_has, within_between, outside_between}
use Rattle.memory.proofs.Laws.{cell_is}
use Rattle.memory.proofs.place_of_all.Goals as goal

pub returns-in-Management : goal.returns-in-Management
returns-in-Management c =
    let g = c.args in
    let e = (cell_is _ _ true _ c.in-Management.ensures).0 in (
      c.in-Management.ensures,
      record {
        each = λ k l m. within_between g.window g.address (g.address + g.count - 1) k l (omega arith) e (sym c.contains.ensures ∙ c.if-contains.true);
        from = λ f. (within_has _ _ e).low;
        inside = λ f. absurd (true≢false f);
        below = omega arith;
      },
    )

pub returns-in-Main : goal.returns-in-Main
returns-in-Main c =
    let g = c.args in
    let e = (cell_is _ _ false _ c.in-Main.ensures).0 in (
      c.in-Main.ensures,
      record {
        each = λ k l m. outside_between g.window g.address (g.address + g.count - 1) k l (omega arith) (omega arith) e (sym c.contains-then-last-end.ensures ∙ c.if-not-contains.true);
        from = λ f. absurd (true≢false (sym f));
        inside = λ f. omega arith;
        below = omega arith;
      },
    )
