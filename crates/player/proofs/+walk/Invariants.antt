use Rattle.std.proofs.Common.{◌≡◌, ◌-◌, length}
use Rattle.memory.specs.Memory.{memories}
use Rattle.scripts.specs.Scripts.{record_limit, within, limited}
use Rattle.records.specs.Stretches.{state, after}
use Rattle.player.specs.Walks.{times}
use Rattle.player.proofs.Walking.{Walking}
use Rattle.player.proofs.+walk.Given as goal

-- the depth left
abbrev pub decreases-walk : goal.decreases-walk
decreases-walk l = l.depth

abbrev pub invariant-loop-group : goal.invariant-loop-group
invariant-loop-group l =
    let s₀ = state l.initial.machine (memories l.initial.main l.initial.management) l.initial.count l.initial.events in
    let t = limited (record_limit - l.initial.count) (times l.initial.left (within l.depth l.list)) in
    (length l.main ≡ length l.initial.main) × (length l.management ≡ length l.initial.management)
    × Walking (after s₀ t.steps) t.reason l.depth l.list (state l.machine (memories l.main l.management) l.count l.events) l.place l.left

abbrev pub decreases-loop-group : goal.decreases-loop-group
decreases-loop-group l = record_limit - l.count
