-- A group is found by the tests of the length, the kind and the count, and no kind of the table is one.
use mathlib.Core.Path.{◌≡◌, refl, ap, ◌∙◌}
use mathlib.Core.Bool.{Bool, true, false, cond, not, ◌&&◌, ◌||◌}
use mathlib.Core.List.{List, [], ◌∷◌}
use Prim.Native.Nat.{ℕ, ◌+◌, ◌-◌, ◌<◌}
use native.Mathlib.Omega.{arith}
use lib.Dec.{eqb, leb, ltb}
use lib.ListN.{length}
use borrow.Author.Tests.{leb-true, leb-false, ltb-true, ltb-false, le-leb, lt-leb}
use Rattle.fields.specs.Fields.{field_at}
use Rattle.trace.specs.declared.Found.TheVariants.{Record, Group}
use Rattle.trace.specs.declared.Ending.TheVariants.{End, Torn, Bad}
use Rattle.std.specs.Prelude.{Ok, Err}
use Rattle.trace.specs.Trace.{Kind, kinds, record_by, record_of, frame, group, group_of, kind_at, past_at, part, ended, short, frame_at, framed, found_at, group_stands, is_group}
use Rattle.trace.proofs.finds_groups.Goals as goal

no_record : (ks : List Kind) (number next : ℕ) (b : List ℕ) → is_group (record_by ks number b next) ≡ false
unfolding record_by is_group
no_record [] number next b = refl
no_record (k ∷ ks) number next b = go (eqb number k.number) (eqb (length b) k.size) (no_record ks number next b)
  where
    go : (t u : Bool) → is_group (record_by ks number b next) ≡ false
        → is_group (cond t (cond u (Ok (Record (k.step b) next)) (Err Bad)) (record_by ks number b next)) ≡ false
    go true true rest = refl
    go true false rest = refl
    go false u rest = rest

module _ (l : List ℕ) (at : ℕ) where
  abbrev n : ℕ
  n = field_at l at 2

  abbrev stands : Bool
  stands = leb 5 n && eqb (kind_at l at) 16 && not (eqb (field_at l (at + 4) 2) 0)

  -- a body is too short for a count and a list where the length is below 5
  small : leb (past_at l at - (at + 4)) 2 ≡ not (leb 5 n)
  small = by (leb 5 n) refl
    where
      by : (q : Bool) → leb 5 n ≡ q → leb (past_at l at - (at + 4)) 2 ≡ not q
      by true e = lt-leb (past_at l at - (at + 4)) 2 (omega (arith, leb-true 5 n e))
      by false e = le-leb (past_at l at - (at + 4)) 2 (omega (arith, leb-false 5 n e))

  whole : is_group (framed l (Ok (frame (kind_at l at) (at + 4) (past_at l at)))) ≡ stands
  unfolding framed group_of record_of is_group
  whole = rw small (go (leb 5 n) (eqb (kind_at l at) 16) (eqb (field_at l (at + 4) 2) 0))
    where
      go : (p q z : Bool)
          → is_group (cond q (cond (not p || z) (Err Bad) (Ok (Group (group (field_at l (at + 4) 2) (at + 4 + 2) (past_at l at))))) (record_of (kind_at l at) (part l (at + 4) (past_at l at)) (past_at l at)))
          ≡ (p && q && not z)
      go true true true = refl
      go true true false = refl
      go false true z = refl
      go true false z = no_record kinds (kind_at l at) (past_at l at) (part l (at + 4) (past_at l at))
      go false false z = no_record kinds (kind_at l at) (past_at l at) (part l (at + 4) (past_at l at))

  beyond : length l < at + 2 + n → false ≡ (leb (at + 2 + n) (length l) && stands)
  beyond h = rw (lt-leb (at + 2 + n) (length l) h)

  found : is_group (found_at l at) ≡ group_stands l at
  unfolding found_at frame_at group_stands framed is_group
  found = by (ended l at) (ltb (length l) (at + 2)) (ltb (length l) (past_at l at)) (short l at) refl refl refl refl
    where
      by : (e t u s : Bool) → ended l at ≡ e → ltb (length l) (at + 2) ≡ t → ltb (length l) (past_at l at) ≡ u → short l at ≡ s
          → is_group (framed l (cond e (Err End) (cond (t || u) (Err Torn) (cond s (Err Bad) (Ok (frame (kind_at l at) (at + 4) (past_at l at)))))))
          ≡ (leb (at + 2 + n) (length l) && stands)
      by true t u s e f g h = beyond (omega (arith, leb-true (length l) at e))
      by false true u s e f g h = beyond (omega (arith, ltb-true (length l) (at + 2) f))
      by false false true s e f g h = beyond (ltb-true (length l) (past_at l at) g)
      by false false false true e f g h =
          rw (
            le-leb (at + 2 + n) (length l) (ltb-false (length l) (past_at l at) g),
            lt-leb 5 n (omega (arith, ltb-true n 2 h)),
          )
      by false false false false e f g h = rw (le-leb (at + 2 + n) (length l) (ltb-false (length l) (past_at l at) g)) whole

pub returns : goal.returns
returns c = ap is_group c.record_at.ensures ∙ found _ _
