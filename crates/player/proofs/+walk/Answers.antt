use Rattle.std.proofs.Common.{◌≡◌, refl, sym, ◌∙◌, arith, rules}
use Rattle.lines.specs.declared.Reason.TheVariants as why
use Rattle.scripts.proofs.Reading.{false_true}
use Rattle.player.proofs.Walking.{walking_all, run_out, group_room, group_bounds, run_unsound, run_fit, run_group, run_further, run_cut, from_start}
use Rattle.player.proofs.+walk.Goals as goal

pub loop-group-init : goal.loop-group-init
loop-group-init t c =
    (refl, refl, walking_all _ _ _ _ c.requires.fit c.requires.done_le_record_limit _ _ record { state_is = refl; reason_is = refl })

-- a group's list is within the list, and not empty
pub slice_bounds-inside-count : goal.slice_bounds-inside-count
slice_bounds-inside-count t c = omega (arith, group_bounds c.loop-group.invariant.2 c.anew.ensures c.run-ran.ensures c.in-Ok.is)

pub slice_bounds-inside-start : goal.slice_bounds-inside-start
slice_bounds-inside-start t c = slice_bounds-inside-count t c

pub slice_bounds-inside-end : goal.slice_bounds-inside-end
slice_bounds-inside-end t c = omega (arith, group_bounds c.loop-group.invariant.2 c.anew.ensures c.run-ran.ensures c.in-Ok.is)

pub walk-inner-requires : goal.walk-inner-requires
walk-inner-requires t c =
    let w = c.loop-group.invariant.2 in (
      omega (arith, w.stands.fit.deep, c.decreases),
      (
        run_fit w c.anew.ensures c.run-ran.ensures c.in-Ok.is c.is_admitted.ensures c.if-not-is_admitted.false,
        omega (arith, group_room w c.anew.ensures c.run-ran.ensures c.in-Ok.is),
      ),
    )

pub loop-group-smaller : goal.loop-group-smaller
loop-group-smaller t c =
    let w = c.loop-group.invariant.2 in
    let e : c.walk-inner.result.reason ≡ why.End = search rules in
    omega (
      arith,
      run_further w c.anew.ensures c.run-ran.ensures c.in-Ok.is c.is_admitted.ensures c.if-not-is_admitted.false c.anew-in-loop-group.ensures c.walk-inner.ensures e,
      (run_group w c.anew.ensures c.run-ran.ensures c.in-Ok.is c.is_admitted.ensures c.if-not-is_admitted.false c.anew-in-loop-group.ensures c.walk-inner.ensures e).room,
    )

pub loop-group-preserved : goal.loop-group-preserved
loop-group-preserved t c =
    let e : c.walk-inner.result.reason ≡ why.End = search rules in (
      omega arith,
      omega arith,
      run_group c.loop-group.invariant.2 c.anew.ensures c.run-ran.ensures c.in-Ok.is c.is_admitted.ensures c.if-not-is_admitted.false c.anew-in-loop-group.ensures c.walk-inner.ensures e,
    )

pub returns-in-Err : goal.returns-in-Err
returns-in-Err t c = from_start (run_out c.loop-group.invariant.2 c.anew.ensures c.run-ran.ensures c.in-Err.is)

pub returns-then-not-is_admitted : goal.returns-then-not-is_admitted
returns-then-not-is_admitted t c =
    from_start (run_unsound c.loop-group.invariant.2 c.anew.ensures c.run-ran.ensures c.in-Ok.is c.is_admitted.ensures c.if-not-is_admitted.true)

pub returns-then-ne : goal.returns-then-ne
returns-then-ne t c =
    from_start (run_cut c.loop-group.invariant.2 c.anew.ensures c.run-ran.ensures c.in-Ok.is c.is_admitted.ensures c.if-not-is_admitted.false c.anew-in-loop-group.ensures c.walk-inner.ensures (λ e. false_true (rw e at (sym c.ne.ensures ∙ c.if-ne.true))))
