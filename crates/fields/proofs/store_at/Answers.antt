use mathlib.Core.Path.{◌≡◌, sym, ◌∙◌}
use Prim.Native.Nat.{◌-◌, min}
use native.Mathlib.Omega.{arith}
use borrow.Rule.Slice.PartMut.{put_mid}
use lib.ListN.{length, drop, length-set, length-take, length-drop}
use Rattle.fields.proofs.Laws.{part_back, part_turn, length-part, bytes_left, bytes_all}
use Rattle.fields.proofs.store_at.Goals as goal

pub loop-byte-init : goal.loop-byte-init
loop-byte-init c = record { within = omega arith; left = rw part_back (bytes_all _ _ _ _) }

pub loop-byte-preserved : goal.loop-byte-preserved
loop-byte-preserved c =
    let a = c.args in
    let l = c.loop-byte in
    let start = c.min-start.result in
    let k = c.min-end.result - start in
    let long : length l.byte-items ≡ min a.count (length a.s.now - a.at) =
    omega (arith, l.auto.byte-items, length-take k (drop start a.s.now), length-drop start a.s.now) in
    record {
      within = simp length-set (omega arith);
      left = part_turn a.s.now l.byte-items _ start a.at k a.count l.byte-index l.rest (omega arith) (omega arith) (omega arith) (omega arith) l.invariant.left;
    }

pub returns : goal.returns
returns c =
    let a = c.args in
    let l = c.loop-byte in
    let start = c.min-start.result in
    let k = c.min-end.result - start in
    let long : length l.byte-items ≡ min a.count (length a.s.now - a.at) =
    omega (arith, l.auto.byte-items, length-take k (drop start a.s.now), length-drop start a.s.now) in
    let whole = put_mid start k a.s.now l.byte-items in
    let same = length-part a.s.now l.byte-items start k l.auto.byte-items in
    sym (bytes_left whole a.at a.count (length l.byte-items) l.byte-index l.rest (omega (arith, same, long)) (omega (arith, l.auto.byte-items)) (omega (arith, long))) ∙ l.invariant.left
