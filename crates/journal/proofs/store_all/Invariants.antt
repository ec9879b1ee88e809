use mathlib.Core.Path.{◌≡◌}
use Prim.Native.Nat.{◌-◌, min}
use lib.ListN.{take}
use Rattle.journal.specs.Stores.{stores, made}
use Rattle.journal.proofs.store_all.Given as goal

abbrev pub invariant-loop-i : goal.invariant-loop-i
invariant-loop-i l = record {
  power : l.left ≡ l.power - l.i;
  made : l.area ≡ made (take (min l.i l.power) (stores l.slot l.value)) l.initial.area;
}
