-- What stands at a place of a list stands there too where other lists are before and after it. Assumes nothing.
use mathlib.Core.Path.{◌≡◌, refl, sym, ap, ◌∙◌}
use mathlib.Core.Bool.{Bool, true, false, cond, ◌||◌}
use mathlib.Core.List.{List, [], ◌∷◌, ◌++◌}
use Prim.Native.Nat.{ℕ, ◌+◌, ◌-◌, ◌<◌, ◌≤◌}
use native.Mathlib.Omega.{arith}
use borrow.Author.Tests.{clash, leb-true, leb-false, ltb-true, ltb-false}
use lib.Dec.{leb, ltb, eqb}
use lib.ListN.{length, drop, length-append, length-drop, get_or-append}
use lib.Seq.{get_or-append-add, drop-append-add, drop-append-le, take-append-le}
use Rattle.std.proofs.lemmas.Bool.{or_parts}
use Rattle.fields.specs.Fields.{field_at}
use Rattle.fields.proofs.Cases.{either}
use Rattle.fields.proofs.Laws.{field_same}
use Rattle.trace.specs.declared.Found.{Found}
use Rattle.trace.specs.declared.Found.TheVariants.{Record, Group}
use Rattle.trace.specs.declared.Ending.{Ending}
use Rattle.trace.specs.declared.Ending.TheVariants.{End, Torn, Bad}
use Rattle.std.specs.Prelude.{Result, Ok, Err}
use Rattle.steps.specs.declared.Step.{Step}
use Rattle.trace.specs.declared.Frame.{Frame}
use Rattle.trace.specs.Trace.{frame, length_at, kind_at, past_at, part, Kind, kinds, record_by, record_of, group_kind, group, group_of, ended, torn, short, frame_at, framed, found_at}
use Rattle.trace.proofs.Finding.{Framed, frame_end, frame_short, frame_over, frame_small, frame_whole, frame_within, found_by}

-- the same, k bytes on
abbrev frame_on : ℕ → Result Frame Ending → Result Frame Ending
frame_on k (Ok f) = Ok (frame f.kind (k + f.start) (k + f.next))
frame_on k (Err e) = Err e

abbrev pub found_on : ℕ → Result (Found Step) Ending → Result (Found Step) Ending
found_on k (Ok (Record step next)) = Ok (Record step (k + next))
found_on k (Ok (Group g)) = Ok (Group (group g.count (k + g.start) (k + g.next)))
found_on k (Err e) = Err e

-- where a list runs out, nothing follows it
abbrev pub Closed : List ℕ → Result (Found Step) Ending → Type 0
Closed q (Ok f) = Unit
Closed q (Err End) = length q ≡ 0
Closed q (Err Torn) = length q ≡ 0
Closed q (Err Bad) = Unit

cond_on : (k : ℕ) (t : Bool) (x y u v : Result (Found Step) Ending) → u ≡ found_on k x → v ≡ found_on k y → cond t u v ≡ found_on k (cond t x y)
cond_on k true x y u v e f = e
cond_on k false x y u v e f = f

record_on : (k number next : ℕ) (b : List ℕ) (ks : List Kind) → record_by ks number b (k + next) ≡ found_on k (record_by ks number b next)
unfolding record_by
record_on k number next b [] = refl
record_on k number next b (r ∷ ks) =
    cond_on k (eqb number r.number) _ _ _ _ (cond_on k (eqb (length b) r.size) (Ok (Record (r.step b) next)) (Err Bad) _ _ refl refl)
    (record_on k number next b ks)

-- a list between two others
abbrev pub between : List ℕ → List ℕ → List ℕ → List ℕ
between p l q = p ++ (l ++ q)

module _ (p l q : List ℕ) where
  length-between : length (between p l q) ≡ length p + (length l + length q)
  length-between = simp length-append

  field_on : (to at n : ℕ) → to ≡ length p + at → at + n ≤ length l → field_at l at n ≡ field_at (between p l q) to n
  field_on to at n e h =
      field_same l (between p l q) at to n
      (λ i k. let f : to + i ≡ length p + (at + i) = omega arith in
      sym (rw f (get_or-append-add p (l ++ q) (at + i) 0 ∙ get_or-append l q 0 (at + i) (omega arith))))

  pub part_on : (start next : ℕ) → start ≤ next → next ≤ length l
      → part l start next ≡ part (between p l q) (length p + start) (length p + next)
  part_on start next h k =
      let e : length p + next - (length p + start) ≡ next - start = omega arith in
      sym (rw (e, drop-append-add p (l ++ q) start, drop-append-le start l q (omega arith))
      (take-append-le (next - start) (drop start l) q (omega (arith, length-drop start l))))

  module _ (at : ℕ) where
    abbrev FrameOn : Result Frame Ending → Type 0
    FrameOn f = Closed q (framed l f) → frame_on (length p) f ≡ frame_at (between p l q) (length p + at)

    torn_on : at < length l → length q ≡ 0 → (a b : Bool) → ltb (length l) (at + 2) ≡ a → ltb (length l) (past_at l at) ≡ b → (a || b) ≡ true
        → Err Torn ≡ frame_at (between p l q) (length p + at)
    torn_on h z true b e f g =
        let k = ltb-true (length l) (at + 2) e in
        frame_short _ _ (omega (arith, length-between)) (omega (arith, length-between))
    torn_on h z false true e f g =
        let k = ltb-false (length l) (at + 2) e in
        let m = ltb-true (length l) (past_at l at) f in
        frame_over _ _ (length_at l at) (field_on (length p + at) at 2 refl k) (omega (arith, length-between)) (omega (arith, length-between))
    torn_on h z false false e f g = absurd (clash g)

    frame_on_lem : FrameOn (frame_at l at)
    unfolding frame_at framed
    frame_on_lem =
        either FrameOn (ended l at) (λ e z. frame_end (between p l q) (length p + at) (omega (arith, length-between, leb-true (length l) at e)))
        (λ e. either FrameOn (torn l at) (λ f z. torn_on (leb-false _ _ e) z _ _ refl refl f)
        (λ f.
        let k = ltb-false (length l) (at + 2) (or_parts _ _ f).0 in
        let r = ltb-false (length l) (past_at l at) (or_parts (ltb (length l) (at + 2)) _ f).1 in
        let s = field_on (length p + at) at 2 refl k in
        let t : length p + at + 2 + length_at l at ≤ length (between p l q) = omega (arith, length-between) in
        either FrameOn (short l at) (λ g z. frame_small (between p l q) (length p + at) (length_at l at) s t (ltb-true _ _ g))
        (λ g z.
        let x : length p + (at + 4) ≡ length p + at + 4 = omega arith in
        let y : length p + past_at l at ≡ length p + at + 2 + length_at l at = omega arith in
        let w = ltb-false (length_at l at) 2 g in
        (λ i. Ok (frame (kind_at l at) (x i) (y i)))
        ∙ frame_whole (between p l q) (length p + at) (length_at l at) s t w (kind_at l at)
        (field_on (length p + at + 2) (at + 2) 2 (omega arith) (omega arith)))))

  group_on : (start next : ℕ) → next ≤ length l
      → group_of (between p l q) (length p + start) (length p + next) ≡ found_on (length p) (group_of l start next)
  unfolding group_of
  group_on start next h = rw e (by (leb (next - start) 2) refl)
    where
      e : length p + next - (length p + start) ≡ next - start
      e = omega arith

      by : (b : Bool) → leb (next - start) 2 ≡ b
          → cond (leb (next - start) 2 || eqb (field_at (between p l q) (length p + start) 2) 0) (Err Bad)
          (Ok (Group (group (field_at (between p l q) (length p + start) 2) (length p + start + 2) (length p + next))))
          ≡ found_on (length p) (cond (leb (next - start) 2 || eqb (field_at l start 2) 0) (Err Bad) (Ok (Group (group (field_at l start 2) (start + 2) next))))
      by true f = rw f
      by false f =
          let g = field_on (length p + start) start 2 refl (omega (arith, leb-false (next - start) 2 f)) in
          let k : length p + start + 2 ≡ length p + (start + 2) = omega arith in
          rw (f, ← g, k) (cond_on (length p) (eqb (field_at l start 2) 0) (Err Bad) (Ok (Group (group (field_at l start 2) (start + 2) next))) _ _ refl refl)

  framed_on : (at : ℕ) (f : Result Frame Ending) → Framed l at f → framed (between p l q) (frame_on (length p) f) ≡ found_on (length p) (framed l f)
  unfolding framed record_of
  framed_on at (Ok f) w =
      cond_on (length p) (eqb f.kind group_kind) _ _ _ _ (group_on f.start f.next w.1)
      (rw (← part_on f.start f.next w.2 w.1) (record_on (length p) f.kind f.next (part l f.start f.next) kinds))
  framed_on at (Err e) w = refl

  pub found_on_lem : (at : ℕ) (f : Result (Found Step) Ending) → found_at l at ≡ f → Closed q f → found_at (between p l q) (length p + at) ≡ found_on (length p) f
  unfolding found_at
  found_on_lem at f e c =
      sym (found_by (between p l q) (length p + at) (frame_on (length p) (frame_at l at)) (frame_on_lem at (rw e c)))
      ∙ framed_on at (frame_at l at) (frame_within l at)
      ∙ ap (found_on (length p)) e
