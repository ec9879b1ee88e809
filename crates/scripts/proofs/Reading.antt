-- Reading a list of records from a place on. Assumes nothing.
use mathlib.Core.Path.{◌≡◌, refl, sym, ap, ◌∙◌}
use mathlib.Core.Bool.{Bool, true, false, cond}
use mathlib.Core.List.{List}
use Prim.Native.Nat.{ℕ, zero, suc, ◌-◌, ◌<◌, ◌≤◌}
use native.Mathlib.Nat.{lt_irrefl}
use native.Mathlib.Omega.{arith}
use lib.ListN.{length, length-append, length-take, length-drop}
use Rattle.steps.specs.declared.Step.{Step}
use Rattle.trace.specs.declared.Found.{Found}
use Rattle.trace.specs.declared.Found.TheVariants.{Record, Group}
use Rattle.trace.specs.declared.Ending.{Ending}
use Rattle.trace.specs.declared.Ending.TheVariants.{End, Torn, Bad}
use Rattle.std.specs.Prelude.{Result, Ok, Err}
use Rattle.trace.specs.Trace.{part, found_at}
use Rattle.trace.proofs.Finding.{Within, found_end, found_within}
use Rattle.lines.specs.declared.Reason.{Reason}
use Rattle.lines.specs.declared.Reason.TheVariants as why
use Rattle.scripts.specs.Scripts.{Script, is_end, stops, follows, joins, repeated, grouped, read_by, read_from, rest, within, Unbounded, ReadsOn}

pub found_past : (l : List ℕ) (at : ℕ) (f : Result (Found Step) Ending) → found_at l at ≡ f → Within l at f
found_past l at f e = rw e at (found_within l at)

module _ (inner : List ℕ → Script) (l : List ℕ) where
  -- only the rest past the record counts
  agree : (at : ℕ) (f : Result (Found Step) Ending) → Within l at f → (g h : ℕ → Script) → ((next : ℕ) → at < next → g next ≡ h next)
      → read_by f l inner g ≡ read_by f l inner h
  agree at (Ok (Record step next)) w g h e = ap (follows step) (e next w.0)
  agree at (Ok (Group r)) w g h e = ap (grouped r.count (inner (part l r.start r.next))) (e r.next w.0)
  agree at (Err e) w g h k = refl

  none_from : (n at : ℕ) → length l ≤ at → read_from inner n l at ≡ stops why.End
  unfolding read_from
  none_from zero at h = refl
  none_from (suc n) at h = rw (← found_end l at h)

  -- any number that is enough gives the same
  enough : (n m at : ℕ) → length l - at ≤ n → length l - at ≤ m → read_from inner n l at ≡ read_from inner m l at
  unfolding read_from
  enough zero m at h k = sym (none_from m at (omega arith))
  enough (suc n) zero at h k = none_from (suc n) at (omega arith)
  enough (suc n) (suc m) at h k =
      agree at (found_at l at) (found_within l at) (read_from inner n l) (read_from inner m l)
      (λ next p. enough n m next (omega arith) (omega arith))

module _ (inner : List ℕ → Script) (l : List ℕ) where
  pub rest_none : (at : ℕ) → length l ≤ at → rest inner l at ≡ stops why.End
  rest_none at h = none_from inner l (length l) at h

  step_from : (n at : ℕ) → length l - at ≤ n → read_from inner n l at ≡ read_by (found_at l at) l inner (rest inner l)
  unfolding read_from
  step_from zero at h = rw (← found_end l at (omega arith))
  step_from (suc n) at h =
      agree inner l at (found_at l at) (found_within l at) (read_from inner n l) (rest inner l)
      (λ next p. enough inner l n (length l) next (omega arith) (omega arith))

  pub rest_found : (at : ℕ) (f : Result (Found Step) Ending) → found_at l at ≡ f → rest inner l at ≡ read_by f l inner (rest inner l)
  rest_found at f e = step_from (length l) at (omega arith) ∙ ap (λ (g : Result (Found Step) Ending). read_by g l inner (rest inner l)) e

pub unbounded : Unbounded
unbounded d l at = rest_found (within d) l at (found_at l at) refl

pub reads_on : ReadsOn
reads_on inner l at = rest_found inner l at (found_at l at) refl

-- a group's list is read as the list of a level less
pub within_all : (depth : ℕ) (l : List ℕ) → 0 < depth → rest (within (depth - 1)) l 0 ≡ within depth l
unfolding within
within_all depth l h =
    let e : depth ≡ suc (depth - 1) = omega arith in
    sym (ap (λ (d : ℕ). within d l) e)

pub within_none : (depth : ℕ) (l : List ℕ) → depth ≡ 0 → is_end (within depth l).reason ≡ false
unfolding within
within_none depth l e = rw e

pub false_true : ◌≡◌ {A = Bool} false true → ⊥
false_true e = let z : ◌≡◌ {A = ℕ} 0 1 = ap (λ (b : Bool). cond b 1 0) e in omega arith

-- a list that is whole has a level left
pub within_some : (depth : ℕ) (l : List ℕ) → is_end (within depth l).reason ≡ true → 0 < depth
unfolding within
within_some zero l e = absurd (false_true e)
within_some (suc d) l e = omega arith

pub end_is : (r : Reason) → is_end r ≡ true → r ≡ why.End
end_is why.End e = refl
end_is why.Limit e = absurd (false_true e)
end_is why.Torn e = absurd (false_true e)
end_is why.Bad e = absurd (false_true e)

-- a list that is not empty and is read to its end holds a step
abbrev pub Holding : (List ℕ → Script) → Type 0
Holding inner = (l : List ℕ) → 0 < length l → is_end (inner l).reason ≡ true → 0 < length (inner l).steps

pub repeated_some : (n : ℕ) (ss : List Step) → 0 < n → 0 < length ss → 0 < length (repeated n ss)
unfolding repeated
repeated_some zero ss h k = absurd (lt_irrefl 0 h)
repeated_some (suc n) ss h k = simp length-append (omega arith)

grouped_some : (b : Bool) (ss : List Step) (r : Script) → (b ≡ true → 0 < length ss)
    → is_end (cond b (joins ss r) (stops why.Bad)).reason ≡ true → 0 < length (cond b (joins ss r) (stops why.Bad)).steps
grouped_some true ss r f e = simp length-append (omega (arith, f refl))
grouped_some false ss r f e = absurd (false_true e)

pub part_some : (l : List ℕ) (start next : ℕ) → start < next → next ≤ length l → 0 < length (part l start next)
part_some l start next h k = simp (length-take, length-drop) (omega arith)

module _ (inner : List ℕ → Script) (holds : Holding inner) (l : List ℕ) where
  some_by : (at : ℕ) (f : Result (Found Step) Ending) → Within l at f → at < length l → (g : ℕ → Script)
      → is_end (read_by f l inner g).reason ≡ true → 0 < length (read_by f l inner g).steps
  some_by at (Ok (Record step next)) w h g e = omega arith
  some_by at (Ok (Group r)) w h g e =
      let p = part l r.start r.next in
      grouped_some (is_end (inner p).reason) (repeated r.count (inner p).steps) (g r.next)
      (λ i. repeated_some r.count (inner p).steps w.3 (holds p (part_some l r.start r.next w.2 w.1) i)) e
  some_by at (Err End) w h g e = absurd (lt_irrefl at (omega arith))
  some_by at (Err Torn) w h g e = absurd (false_true e)
  some_by at (Err Bad) w h g e = absurd (false_true e)

  rest_some : (at : ℕ) → at < length l → is_end (rest inner l at).reason ≡ true → 0 < length (rest inner l at).steps
  rest_some at h =
      rw (rest_found inner l at (found_at l at) refl) (some_by at (found_at l at) (found_within l at) h (rest inner l))

pub within_holds : (depth : ℕ) → Holding (within depth)
unfolding within
within_holds zero l h e = absurd (false_true e)
within_holds (suc d) l h e = rest_some (within d) (within_holds d) l 0 h e

-- where bytes are left, a reading to the end holds a step more
pub more_left : (depth : ℕ) (l : List ℕ) (at : ℕ) → at < length l → is_end (rest (within depth) l at).reason ≡ true
    → 0 < length (rest (within depth) l at).steps
more_left depth l at = rest_some (within depth) (within_holds depth) l at
