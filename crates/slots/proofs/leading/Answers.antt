use native.Mathlib.Omega.{arith}
use mathlib.Core.Path.{◌≡◌, sym, ap, ◌∙◌}
use mathlib.Core.Bool.{true}
use Prim.Native.Nat.{ℕ}
use Rattle.std.specs.declared.slice.ChunksExact.{ChunksExact}
use Rattle.std.specs.Slice.Iter.{chunks_exact_rest, chunks_exact_size}
use Rattle.slots.specs.Area.{ceiling_field}
use Rattle.slots.specs.Contents.{continues}
use Rattle.slots.proofs.Searching.{each_more}
use Rattle.slots.proofs.Passing.{before_more, before_none, field_first, next_first, after_first, room_first}
use Rattle.slots.proofs.leading.Goals as goal

pub loop-slot-init : goal.loop-slot-init
loop-slot-init c =
    let e = ap (λ (i : ChunksExact ℕ). chunks_exact_size i) c.into_iter-slot-iterator.ensures.into_iter_gives ∙ c.chunks_exact-slot-items.ensures.size in
    record {
      going = (omega arith, tt);
      size = e;
      rest = ap (λ (i : ChunksExact ℕ). chunks_exact_rest i) c.into_iter-slot-iterator.ensures.into_iter_gives ∙ c.chunks_exact-slot-items.ensures.rest;
      fits = omega arith;
      last = before_none _;
      each = λ k l. absurd (omega arith);
    }

pub returns-then-not-is_next-clause-stops : goal.returns-then-not-is_next-clause-stops
returns-then-not-is_next-clause-stops c =
    let i = c.loop-slot.invariant in
    let e = sym i.rest ∙ c.in-Some.ensures.steps.1.0 in
    let l = c.in-Some.ensures.steps.1.1 ∙ i.size in
    λ _. sym (next_first _ _ _ _ e l _ i.last) ∙ sym c.is_next.ensures ∙ c.if-not-is_next.true

pub loop-slot-preserved : goal.loop-slot-preserved
loop-slot-preserved c =
    let i = c.loop-slot.invariant in
    let e = sym i.rest ∙ c.in-Some.ensures.steps.1.0 in
    let l = c.in-Some.ensures.steps.1.1 ∙ i.size in
    let s = c.in-Some.ensures.steps.0 ∙ i.size in
    record {
      going = (omega arith, tt);
      size = s;
      rest = after_first c.args.area.now _ _ c.loop-slot.found.count e l;
      fits = room_first c.args.area.now _ _ c.loop-slot.found.count e l;
      last = before_more _ _ _ (c.ceiling_of.ensures ∙ field_first _ _ _ _ e l ceiling_field);
      each = each_more {P = λ k. continues c.args.area.now k ≡ true} _ i.each (sym (next_first _ _ _ _ e l _ i.last) ∙ sym c.is_next.ensures ∙ c.if-not-is_next.false);
    }
