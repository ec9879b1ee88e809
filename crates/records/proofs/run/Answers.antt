use Rattle.std.proofs.Common.{sym, ap, ◌∙◌, arith}
use Rattle.std.specs.Prelude.{Ok, Err}
use Rattle.records.proofs.States.{step_on_lem}
use Rattle.records.proofs.Stretching.{Turned, turned_again, turned_not, stretch_end, stretch_limit, stretch_found, stopped_as, running_turn, running_out}
use Rattle.records.proofs.run.Goals as goal
use Rattle.records.proofs.run.Goals.{then-place-list+then-left-le1, then-count-ge-RECORD_LIMIT, then-place-list+else-left-le1, else-place-list, else-count-ge-RECORD_LIMIT+in-Ok-Group, else-count-ge-RECORD_LIMIT+in-Err}

-- a turn begins at the place, or past the end with the next round
pub loop-place-preserved : goal.loop-place-preserved
loop-place-preserved c =
    let r = c.in-Ok-Record in
    let t : Turned c.args.list.now c.loop-place.place c.loop-place.left c.if-place-list.place c.if-place-list.left =
    elim c.if-place-list.branch [
      | then-place-list+else-left-le1 w ↦ turned_again w.if-place-list.true w.if-left-le1.false w.place-is w.left-is
      | else-place-list w ↦ turned_not w.if-place-list.false w.place-is w.left-is
    ] in (
      omega arith,
      omega arith,
      running_turn _ _ _ _ _ _ _ c.loop-place.invariant.2 _ _ t (omega arith) _ _ (sym c.record_at.ensures ∙ r.is ∙ ap Ok r.field-0-is) _
          (step_on_lem _ _ _ _ _ _ _ c.step-stepped.ensures _ c.note.ensures),
    )

pub returns : goal.returns
returns c =
    running_out _ _ _ _ _ _ _ c.loop-place.invariant.2 _ _
    (elim c.if-place-list.branch [
      | then-place-list+then-left-le1 w ↦ stretch_end _ _ _ _ w.if-place-list.true w.if-left-le1.true ∙ stopped_as w.left-is w.stop-is
      | then-count-ge-RECORD_LIMIT w ↦
          let t : Turned c.args.list.now c.loop-place.place c.loop-place.left w.if-place-list.place w.if-place-list.left =
          elim w.if-place-list.branch [
            | then-place-list+else-left-le1 w' ↦ turned_again w'.if-place-list.true w'.if-left-le1.false w'.place-is w'.left-is
            | else-place-list w' ↦ turned_not w'.if-place-list.false w'.place-is w'.left-is
          ] in
          stretch_limit _ _ _ _ _ t _ (omega (arith, w.if-count-ge-RECORD_LIMIT.true)) ∙ stopped_as w.left-is w.stop-is
      | else-count-ge-RECORD_LIMIT+in-Ok-Group w ↦
          let r = w.in-Ok-Group in
          let t : Turned c.args.list.now c.loop-place.place c.loop-place.left w.if-place-list.place w.if-place-list.left =
          elim w.if-place-list.branch [
            | then-place-list+else-left-le1 w' ↦ turned_again w'.if-place-list.true w'.if-left-le1.false w'.place-is w'.left-is
            | else-place-list w' ↦ turned_not w'.if-place-list.false w'.place-is w'.left-is
          ] in
          stretch_found _ _ _ _ _ t _ (omega (arith, w.if-count-ge-RECORD_LIMIT.false)) _ (sym w.record_at.ensures ∙ r.is ∙ ap Ok r.field-0-is) ∙ stopped_as w.left-is w.stop-is
      | else-count-ge-RECORD_LIMIT+in-Err w ↦
          let t : Turned c.args.list.now c.loop-place.place c.loop-place.left w.if-place-list.place w.if-place-list.left =
          elim w.if-place-list.branch [
            | then-place-list+else-left-le1 w' ↦ turned_again w'.if-place-list.true w'.if-left-le1.false w'.place-is w'.left-is
            | else-place-list w' ↦ turned_not w'.if-place-list.false w'.place-is w'.left-is
          ] in
          stretch_found _ _ _ _ _ t _ (omega (arith, w.if-count-ge-RECORD_LIMIT.false)) _ (sym w.record_at.ensures ∙ w.in-Err.is) ∙ stopped_as w.left-is (w.stop-is ∙ ap Err w.from.ensures)
    ])
    _ c.anew.ensures
