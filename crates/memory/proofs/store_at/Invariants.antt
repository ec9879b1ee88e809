use Rattle.memory.specs.Memory.{memories, store}
use Prim.Native.Nat.{◌+◌, ◌-◌}
use mathlib.Core.Path.{◌≡◌}
use Rattle.memory.proofs.store_at.Given as goal

-- what is left to store makes the memories what the whole does
abbrev pub invariant-loop-at : goal.invariant-loop-at
invariant-loop-at l =
    store l.window (memories l.main l.management) l.at (l.address + l.count - l.at) l.rest
    ≡ store l.window (memories l.initial.main l.initial.management) l.address l.count l.value
