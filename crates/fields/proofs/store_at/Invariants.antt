use mathlib.Core.Path.{◌≡◌}
use Prim.Native.Nat.{◌+◌, ◌-◌, ◌≤◌}
use borrow.Rule.Slice.PartMut.{put_mid}
use lib.Seq.{sets}
use lib.ListN.{length}
use Rattle.fields.specs.Fields.{bytes_of}
use Rattle.fields.proofs.store_at.Given as goal

-- the whole list, as it stands with the part that the loop goes over
abbrev pub invariant-loop-byte : goal.invariant-loop-byte
invariant-loop-byte l = record {
  within : l.byte-index ≤ length l.byte-items;
  left : sets (put_mid l.start (l.end - l.start) l.fn.s l.byte-items) (l.at + l.byte-index) (bytes_of (l.count - l.byte-index) l.rest)
      ≡ sets l.fn.s l.at (bytes_of l.count l.value);
}
