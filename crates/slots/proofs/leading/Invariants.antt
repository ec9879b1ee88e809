use Rattle.std.proofs.Common.{◌≡◌, true, ℕ, ◌*◌, ◌<◌, ◌≤◌, length, drop}
use Rattle.std.specs.Slice.Iter.{chunks_exact_rest, chunks_exact_size}
use Rattle.slots.specs.Area.{slot_size, ceiling_before}
use Rattle.slots.specs.Contents.{continues}
use Rattle.slots.proofs.leading.Given as goal

abbrev pub invariant-loop-slot : goal.invariant-loop-slot
invariant-loop-slot l = record {
  going : (goal.iterator-loop-slot).can_next l.slot-iterator × (goal.iterator-loop-slot).is_finite l.slot-iterator;
  size : chunks_exact_size l.slot-iterator ≡ slot_size;
  rest : chunks_exact_rest l.slot-iterator ≡ drop (slot_size * l.found.count) l.area;
  fits : slot_size * l.found.count ≤ length l.area;
  last : l.found.ceiling ≡ ceiling_before l.area l.found.count;
  each : (k : ℕ) → k < l.found.count → continues l.area k ≡ true;
}
