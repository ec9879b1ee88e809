-- Whether a list reads to its end, by what is passed over. Assumes nothing.
use mathlib.Core.Path.{◌≡◌, refl, sym, ap, ◌∙◌}
use mathlib.Core.Bool.{Bool, true, false, cond}
use mathlib.Core.List.{List}
use Prim.Native.Nat.{ℕ, ◌-◌, ◌<◌}
use Rattle.trace.specs.declared.Found.{Found}
use Rattle.trace.specs.declared.Group as declared
use Rattle.trace.specs.declared.Found.TheVariants.{Record, Group}
use denote.Enum.Bare.{sameb}
use Rattle.trace.specs.contracts.Ending as ending
use Rattle.trace.specs.declared.Ending.{Ending}
use Rattle.trace.specs.declared.Ending.TheVariants.{End, Torn, Bad}
use Rattle.std.specs.Prelude.{Result, Ok, Err}
use Rattle.steps.specs.declared.Step.{Step}
use Rattle.trace.specs.Trace.{part, found_at, passed}
use Rattle.trace.proofs.Finding.{Within, found_within}
use Rattle.lines.specs.Reasons.{reason_of}
use Rattle.scripts.specs.Scripts.{Script, is_end, stops, joins, repeated, read_by, rest, within}
use Rattle.scripts.proofs.Reading.{rest_found, within_all}
use Rattle.lines.specs.declared.Reason.TheVariants as why

-- what is passed over ends where it does
past_by : (l : List ℕ) (at : ℕ) (f : Result (Found Step) Ending) → Within l at f → Within l at (passed f)
unfolding passed
past_by l at (Ok (Record step next)) w = w
past_by l at (Ok (Group g)) w = w
past_by l at (Err e) w = w

pub passes : (l : List ℕ) (at : ℕ) (p : Result (Found Unit) Ending) → p ≡ passed (found_at l at) → Within l at p
passes l at p e = rw e (past_by l at (found_at l at) (found_within l at))

pub passes_group : (l : List ℕ) (at : ℕ) {f : Found Unit} {g : declared.Group} → f ≡ Group g → Ok f ≡ passed (found_at l at) → Within {S = Unit} l at (Ok (Group g))
passes_group l at e h = passes l at _ (rw e at h)

-- whether what follows reads to its end, from whether the list of a group does, and the rest
abbrev ends_by : Result (Found Unit) Ending → List ℕ → (List ℕ → Bool) → (ℕ → Bool) → Bool
ends_by (Ok (Record step next)) l inner after = after next
ends_by (Ok (Group g)) l inner after = cond (inner (part l g.start g.next)) (after g.next) false
ends_by (Err e) l inner after = is_end (reason_of e)

abbrev sound : ℕ → List ℕ → Bool
sound depth l = is_end (within depth l).reason

group_ends : (b : Bool) (u : Script) → is_end (cond b u (stops why.Bad)).reason ≡ cond b (is_end u.reason) false
group_ends true u = refl
group_ends false u = refl

ends_by_lem : (f : Result (Found Step) Ending) (l : List ℕ) (inner : List ℕ → Script) (after : ℕ → Script)
    → is_end (read_by f l inner after).reason ≡ ends_by (passed f) l (λ m. is_end (inner m).reason) (λ n. is_end (after n).reason)
unfolding passed
ends_by_lem (Ok (Record step next)) l inner after = refl
ends_by_lem (Ok (Group g)) l inner after = group_ends (is_end (inner (part l g.start g.next)).reason) (joins (repeated g.count (inner (part l g.start g.next)).steps) (after g.next))
ends_by_lem (Err e) l inner after = refl

-- what the check of a list knows at a place: it reads to its end if the rest does
abbrev pub Checked : ℕ → List ℕ → ℕ → Type 0
Checked depth l at = sound depth l ≡ is_end (rest (within (depth - 1)) l at).reason

pub checked_all : (depth : ℕ) (l : List ℕ) → 0 < depth → Checked depth l 0
checked_all depth l h = ap (λ (v : Script). is_end v.reason) (sym (within_all depth l h))

module _ (depth : ℕ) (l : List ℕ) (at : ℕ) (k : Checked depth l at) where
  pub checked : (p : Result (Found Unit) Ending) → p ≡ passed (found_at l at)
      → sound depth l ≡ ends_by p l (sound (depth - 1)) (λ n. is_end (rest (within (depth - 1)) l n).reason)
  checked p e =
      k
      ∙ ap (λ (v : Script). is_end v.reason) (rest_found (within (depth - 1)) l at (found_at l at) refl)
      ∙ ends_by_lem (found_at l at) l (within (depth - 1)) (rest (within (depth - 1)) l)
      ∙ ap (λ (q : Result (Found Unit) Ending). ends_by q l (sound (depth - 1)) (λ n. is_end (rest (within (depth - 1)) l n).reason)) (sym e)

  module _ (r : declared.Group) (e : Ok (Group r) ≡ passed (found_at l at)) (b : Bool) (g : b ≡ sound (depth - 1) (part l r.start r.next)) where
    pub checked_group : b ≡ true → Checked depth l r.next
    checked_group h = rw (sym g ∙ h) at (checked (Ok (Group r)) e)

    pub checked_bad : b ≡ false → false ≡ sound depth l
    checked_bad h = sym (rw (sym g ∙ h) at (checked (Ok (Group r)) e))

pub at_end : (e : Ending) → sameb ending.the_type e End ≡ is_end (reason_of e)
at_end End = refl
at_end Torn = refl
at_end Bad = refl
