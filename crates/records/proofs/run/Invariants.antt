use mathlib.Core.Path.{◌≡◌}
use Prim.Native.Nat.{◌-◌}
use lib.ListN.{length}
use Rattle.memory.specs.Memory.{memories}
use Rattle.scripts.specs.Scripts.{record_limit}
use Rattle.records.specs.Stretches.{state}
use Rattle.records.proofs.Stretching.{Running}
use Rattle.records.proofs.run.Given as goal

abbrev pub invariant-loop-place : goal.invariant-loop-place
invariant-loop-place l =
    (length l.main ≡ length l.initial.main) × (length l.management ≡ length l.initial.management)
    × Running l.list l.initial.place l.initial.left (state l.initial.machine (memories l.initial.main l.initial.management) l.initial.count l.initial.events) l.place l.left (state l.machine (memories l.main l.management) l.count l.events)

abbrev pub decreases-loop-place : goal.decreases-loop-place
decreases-loop-place l =
    record_limit - l.count
