-- Where no group stands, the reader finds what it found before there were groups. Assumes nothing.
use mathlib.Core.Path.{◌≡◌, refl, sym, ap, ◌∙◌}
use mathlib.Core.Bool.{Bool, true, false, cond, ◌||◌}
use mathlib.Core.List.{List, [], ◌∷◌}
use Prim.Native.Nat.{ℕ, ◌+◌, ◌-◌}
use native.Mathlib.Omega.{arith}
use borrow.Author.Tests.{eqb-true}
use lib.Dec.{leb, eqb}
use lib.ListN.{length, take, drop}
use Rattle.fields.specs.Fields.{field_at}
use Rattle.trace.specs.declared.Found.TheVariants.{Record, Group}
use Rattle.trace.specs.declared.Ending.TheVariants.{End, Torn, Bad}
use Rattle.std.specs.Prelude.{Ok, Err}
use Rattle.trace.specs.Trace.{frame, length_at, kind_at, past_at, part, Kind, kinds, record_by, record_of, group_kind, group, group_of, ended, torn, short, frame_at, framed, found_at}
use Rattle.trace.specs.Former.{former_found, ungrouped, FoundAsFormerly}

-- a group, and a kind that there isn't
ungrouped_group : (l : List ℕ) (start next : ℕ) → ungrouped (group_of l start next) ≡ Err Bad
unfolding group_of
ungrouped_group l start next = go (leb (next - start) 2 || eqb (field_at l start 2) 0)
  where
    go : (b : Bool) → ungrouped (cond b (Err Bad) (Ok (Group (group (field_at l start 2) (start + 2) next)))) ≡ Err Bad
    go true = refl
    go false = refl

no_such_kind : (b : List ℕ) (next : ℕ) → record_of group_kind b next ≡ Err Bad
unfolding record_of record_by
no_such_kind b next = refl

-- the table has no groups
ungrouped_record : (ks : List Kind) (number : ℕ) (b : List ℕ) (next : ℕ) → ungrouped (record_by ks number b next) ≡ record_by ks number b next
unfolding record_by
ungrouped_record [] number b next = refl
ungrouped_record (k ∷ ks) number b next = go (eqb number k.number) (eqb (length b) k.size) (ungrouped_record ks number b next)
  where
    go : (s t : Bool) → ungrouped (record_by ks number b next) ≡ record_by ks number b next
        → ungrouped (cond s (cond t (Ok (Record (k.step b) next)) (Err Bad)) (record_by ks number b next)) ≡ cond s (cond t (Ok (Record (k.step b) next)) (Err Bad)) (record_by ks number b next)
    go true true e = refl
    go true false e = refl
    go false t e = e

by_kind : (l : List ℕ) (number start next : ℕ) (b : Bool) → eqb number group_kind ≡ b
    → record_of number (part l start next) next ≡ ungrouped (cond b (group_of l start next) (record_of number (part l start next) next))
unfolding record_of
by_kind l number start next true e =
    ap (λ (n : ℕ). record_of n (part l start next) next) (eqb-true number group_kind e) ∙ no_such_kind (part l start next) next ∙ sym (ungrouped_group l start next)
by_kind l number start next false e = sym (ungrouped_record kinds number (part l start next) next)

pub found_as_formerly : FoundAsFormerly
unfolding former_found found_at frame_at framed
found_as_formerly l at = go (ended l at) (torn l at) (short l at)
  where
    body : take (length_at l at - 2) (drop (at + 4) l) ≡ part l (at + 4) (past_at l at)
    body = let e : length_at l at - 2 ≡ past_at l at - (at + 4) = omega arith in ap (λ (n : ℕ). take n (drop (at + 4) l)) e

    read : record_of (kind_at l at) (take (length_at l at - 2) (drop (at + 4) l)) (past_at l at)
        ≡ ungrouped (framed l (Ok (frame (kind_at l at) (at + 4) (past_at l at))))
    read = ap (λ (b : List ℕ). record_of (kind_at l at) b (past_at l at)) body
        ∙ by_kind l (kind_at l at) (at + 4) (past_at l at) (eqb (kind_at l at) group_kind) refl

    go : (a b c : Bool)
        → cond a (Err End) (cond b (Err Torn) (cond c (Err Bad) (record_of (kind_at l at) (take (length_at l at - 2) (drop (at + 4) l)) (past_at l at))))
        ≡ ungrouped (framed l (cond a (Err End) (cond b (Err Torn) (cond c (Err Bad) (Ok (frame (kind_at l at) (at + 4) (past_at l at)))))))
    go true b c = refl
    go false true c = refl
    go false false true = refl
    go false false false = read
