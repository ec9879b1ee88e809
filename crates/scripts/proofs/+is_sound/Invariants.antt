use Rattle.std.proofs.Common.{◌-◌, ◌<◌, length}
use Rattle.scripts.proofs.Checking.{Checked}
use Rattle.scripts.proofs.+is_sound.Given as goal

-- the depth left
abbrev pub decreases-is_sound : goal.decreases-is_sound
decreases-is_sound l = l.depth

abbrev pub invariant-loop-next : goal.invariant-loop-next
invariant-loop-next l = (0 < l.depth) × Checked l.depth l.list l.place

abbrev pub decreases-loop-next : goal.decreases-loop-next
decreases-loop-next l = length l.list - l.place
