use Rattle.std.proofs.Common.{sym, ◌∙◌, arith}
use Rattle.std.proofs.Math.Nat.{pos_of_ne-zero}
use Rattle.scripts.proofs.Reading.{within_none}
use Rattle.scripts.proofs.Checking.{passes, passes_group, checked_all, checked, checked_group, at_end, checked_bad}
use Rattle.scripts.proofs.+is_sound.Goals as goal

pub returns-then-depth-eq0 : goal.returns-then-depth-eq0
returns-then-depth-eq0 t c = sym (within_none _ _ c.if-depth-eq0.true)

pub loop-next-init : goal.loop-next-init
loop-next-init t c = (pos_of_ne-zero c.if-depth-eq0.false, checked_all _ _ (pos_of_ne-zero c.if-depth-eq0.false))

pub loop-next-smaller-in-Ok-Record : goal.loop-next-smaller-in-Ok-Record
loop-next-smaller-in-Ok-Record t c = omega (arith, passes _ _ _ (rw c.in-Ok-Record.field-0-is at c.in-Ok-Record.ensures))

pub loop-next-preserved-in-Ok-Record : goal.loop-next-preserved-in-Ok-Record
loop-next-preserved-in-Ok-Record t c = (c.loop-next.invariant.0, checked _ _ _ c.loop-next.invariant.1 _ (rw c.in-Ok-Record.field-0-is at c.in-Ok-Record.ensures))

pub slice_bounds-is_sound-count : goal.slice_bounds-is_sound-count
slice_bounds-is_sound-count t c = omega (arith, passes_group _ _ c.in-Ok-Group.field-0-is c.in-Ok-Group.ensures)

pub slice_bounds-is_sound-start : goal.slice_bounds-is_sound-start
slice_bounds-is_sound-start t c = slice_bounds-is_sound-count t c

pub slice_bounds-is_sound-end : goal.slice_bounds-is_sound-end
slice_bounds-is_sound-end t c = omega (arith, passes_group _ _ c.in-Ok-Group.field-0-is c.in-Ok-Group.ensures)

pub returns-then-not-is_sound : goal.returns-then-not-is_sound
returns-then-not-is_sound t c = checked_bad _ _ _ c.loop-next.invariant.1 _ (rw c.in-Ok-Group.field-0-is at c.in-Ok-Group.ensures) _ c.is_sound.ensures c.if-not-is_sound.true

pub loop-next-smaller : goal.loop-next-smaller
loop-next-smaller t c = omega (arith, passes_group _ _ c.in-Ok-Group.field-0-is c.in-Ok-Group.ensures)

pub loop-next-preserved : goal.loop-next-preserved
loop-next-preserved t c =
    (c.loop-next.invariant.0, checked_group _ _ _ c.loop-next.invariant.1 _ (rw c.in-Ok-Group.field-0-is at c.in-Ok-Group.ensures) _ c.is_sound.ensures c.if-not-is_sound.false)

pub returns-in-Err : goal.returns-in-Err
returns-in-Err t c = c.eq.ensures ∙ at_end c.in-Err.ending ∙ sym (checked _ _ _ c.loop-next.invariant.1 _ c.in-Err.ensures)
