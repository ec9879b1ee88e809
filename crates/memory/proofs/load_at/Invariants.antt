use Rattle.memory.specs.Memory.{memories, load}
use Prim.Native.Nat.{◌+◌, ◌-◌, ◌^◌, ◌<◌}
use mathlib.Core.Path.{◌≡◌}
use Rattle.memory.proofs.load_at.Given as goal

abbrev pub invariant-loop-i : goal.invariant-loop-i
invariant-loop-i l = record {
  bounded : l.value < 256 ^ (l.count - l.i);
  loaded : l.value ≡ load l.window (memories l.main l.management) (l.address + l.i) (l.count - l.i);
}
