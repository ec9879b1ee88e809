-- Up to the first group, what is read up to the limit is the rule as it was. Assumes nothing.
use mathlib.Core.Path.{◌≡◌, refl, ap, ◌∙◌}
use mathlib.Core.Bool.{Bool, true, false, cond}
use mathlib.Core.List.{List}
use Prim.Native.Nat.{ℕ, zero, suc}
use native.Mathlib.Omega.{arith}
use borrow.Author.Tests.{leb-true, leb-false}
use Rattle.fields.specs.Fields.{number_by}
use Rattle.trace.specs.declared.Found.{Found}
use Rattle.trace.specs.declared.Found.TheVariants.{Record, Group}
use Rattle.trace.specs.declared.Ending.{Ending}
use Rattle.trace.specs.declared.Ending.TheVariants.{End, Torn, Bad}
use Rattle.std.specs.Prelude.{Result, Ok, Err}
use Rattle.steps.specs.declared.Step.{Step}
use Rattle.trace.specs.Trace.{ended, frame_at, framed, record_of, record_by, found_at}
use Rattle.lines.specs.declared.Reason.TheVariants as why
use Rattle.scripts.specs.Scripts.{Script, record_limit, group_levels, stops, follows, rest, within, limited}
use Rattle.scripts.specs.Former.{former_by, former_from, UpToGroups, SameAsFormerly, Groupless, one_wake}
use Rattle.scripts.proofs.Reading.{rest_none, rest_found, more_left}
use Rattle.scripts.proofs.Limits.{limited_end, limited_stop, limited_none, limited_suc}

module _ (d : ℕ) (l : List ℕ) where
  -- what is read from a place on, up to a limit
  abbrev taken : ℕ → ℕ → Script
  taken n at = limited n (rest (within d) l at)

  at_limit : (at : ℕ) (b : Bool) → ended l at ≡ b → taken 0 at ≡ stops (cond b why.End why.Limit)
  at_limit at true e = ap (limited 0) (rest_none (within d) l at (leb-true _ _ e)) ∙ limited_end 0
  at_limit at false e = limited_none 0 _ refl (more_left d l at (leb-false _ _ e))

  by : (n at : ℕ) (f : Result (Found Step) Ending) → found_at l at ≡ f → ((next : ℕ) → taken n next ≡ former_from taken n l next)
      → taken (suc n) at ≡ former_by f (former_from taken n l) (taken (suc n) at)
  by n at (Ok (Record step next)) e h = ap (limited (suc n)) (rest_found (within d) l at (Ok (Record step next)) e) ∙ limited_suc n step _ ∙ ap (follows step) (h next)
  by n at (Ok (Group g)) e h = refl
  by n at (Err End) e h = ap (limited (suc n)) (rest_found (within d) l at (Err End) e) ∙ limited_end (suc n)
  by n at (Err Torn) e h = ap (limited (suc n)) (rest_found (within d) l at (Err Torn) e) ∙ limited_stop (suc n) why.Torn (omega arith)
  by n at (Err Bad) e h = ap (limited (suc n)) (rest_found (within d) l at (Err Bad) e) ∙ limited_stop (suc n) why.Bad (omega arith)

  same_from : (n at : ℕ) → taken n at ≡ former_from taken n l at
  unfolding former_from
  same_from zero at = at_limit at (ended l at) refl
  same_from (suc n) at = by n at (found_at l at) refl (same_from n)

pub up_to_groups : UpToGroups
up_to_groups trace = same_from group_levels trace record_limit 0

pub same_as_formerly : SameAsFormerly
same_as_formerly trace groupless = up_to_groups trace ∙ groupless (taken group_levels trace)

-- ---- the example

pub one_wake_groupless : Groupless one_wake
unfolding former_from found_at frame_at framed record_of record_by number_by
one_wake_groupless group = refl
