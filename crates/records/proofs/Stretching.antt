-- A stretch of records: the loop that runs it. Assumes nothing.
use Rattle.std.specs.Prelude.{Result, Ok, Err}
use mathlib.Core.Path.{◌≡◌, refl, sym, ap, ◌∙◌}
use mathlib.Core.Bool.{false}
use mathlib.Core.List.{List}
use Prim.Native.Nat.{ℕ, zero, suc, ◌+◌, ◌-◌, ◌<◌, ◌≤◌}
use native.Mathlib.Omega.{arith}
use borrow.Author.Tests.{le-leb, lt-leb}
use lib.ListN.{length}
use Rattle.steps.specs.declared.Step.{Step}
use Rattle.machine.specs.declared.Machine.{Machine}
use Rattle.trace.specs.declared.Group.{Group}
use Rattle.trace.specs.declared.Found.{Found}
use Rattle.trace.specs.declared.Found.TheVariants as found
use Rattle.trace.specs.declared.Ending.{Ending}
use Rattle.trace.specs.Trace.{found_at}
use Rattle.lines.specs.declared.Reason.{Reason}
use Rattle.lines.specs.declared.Reason.TheVariants as why
use Rattle.scripts.specs.Scripts.{record_limit}
use Rattle.records.specs.Stretches.{State, state, step_on, after, Stretch, stopped, over, place_at, left_at, stretch_by, stretch_from, Stretches}

-- ---- from the tests that the code makes

-- a turn begins at the place p, with k rounds not done
pub record Turned (l : List ℕ) (at left p k : ℕ) : Type 0 where
  pub goes_on : over l at left ≡ false
  pub place_is : p ≡ place_at l at
  pub left_is : k ≡ left_at l at left

pub turned_again : {l : List ℕ} {at left p k : ℕ} → length l ≤ at → 1 < left → p ≡ 0 → k ≡ left - 1 → Turned l at left p k
turned_again h i e f = record {
  goes_on = rw (le-leb _ _ h, lt-leb _ _ i);
  place_is = rw (le-leb _ _ h) e;
  left_is = rw (le-leb _ _ h) f;
}

pub turned_not : {l : List ℕ} {at left p k : ℕ} → at < length l → p ≡ at → k ≡ left → Turned l at left p k
turned_not h e f = record { goes_on = rw (lt-leb _ _ h); place_is = rw (lt-leb _ _ h) e; left_is = rw (lt-leb _ _ h) f }

module _ (l : List ℕ) (at left : ℕ) where
  pub stretch_end : (n : ℕ) → length l ≤ at → left ≤ 1 → stretch_from n l at left ≡ stopped left (Err why.End)
  unfolding stretch_from
  stretch_end zero h i = rw (le-leb _ _ h, le-leb _ _ i)
  stretch_end (suc n) h i = rw (le-leb _ _ h, le-leb _ _ i)

  module _ (p k : ℕ) (t : Turned l at left p k) where
    pub stretch_limit : (n : ℕ) → n ≡ 0 → stretch_from n l at left ≡ stopped k (Err why.Limit)
    unfolding stretch_from
    stretch_limit n e = rw (e, t.goes_on, ← t.left_is)

    pub stretch_found : (n : ℕ) → 0 < n → (f : Result (Found Step) Ending) → found_at l p ≡ f → stretch_from n l at left ≡ stretch_by f k (λ next. stretch_from (n - 1) l next k)
    unfolding stretch_from
    stretch_found n h f e =
        let i : n ≡ suc (n - 1) = omega arith in
        ap (λ (m : ℕ). stretch_from m l at left) i ∙ rw (t.goes_on, ← t.place_is, ← t.left_is, e)

pub stopped_as : {k k' : ℕ} {stop stop' : Result Group Reason} → k ≡ k' → stop ≡ stop' → stopped k' stop' ≡ stopped k stop
stopped_as e f = rw (e, f)

-- ---- the loop

-- what is left of a stretch at a place
abbrev upcoming : List ℕ → ℕ → ℕ → State → Stretch
upcoming l at left s = stretch_from (record_limit - s.count) l at left

-- u and v lead from s and t to the same
pub record Same (s : State) (u : Stretch) (t : State) (v : Stretch) : Type 0 where
  pub state_is : after s u.steps ≡ after t v.steps
  pub left_is : u.left ≡ v.left
  pub stop_is : u.stop ≡ v.stop

-- from s₀, the place from and rounds on as from s, the place at and left on
abbrev pub Running : List ℕ → ℕ → ℕ → State → ℕ → ℕ → State → Type 0
Running l from rounds s₀ at left s = Same s (upcoming l at left s) s₀ (upcoming l from rounds s₀)

pub running_all : (l : List ℕ) (from rounds : ℕ) (s : State) → Running l from rounds s from rounds s
running_all l from rounds s = record { state_is = refl; left_is = refl; stop_is = refl }

module _ (l : List ℕ) (from rounds : ℕ) (s₀ : State) (at left : ℕ) (s : State) (w : Running l from rounds s₀ at left s) where
  pub running_turn : (p k : ℕ) → Turned l at left p k → s.count < record_limit → (step : Step) (next : ℕ) → found_at l p ≡ Ok (found.Record step next)
      → (s' : State) → s' ≡ step_on s step → Running l from rounds s₀ next k s'
  unfolding after step_on
  running_turn p k t h step next e s' f =
      let j : record_limit - s.count - 1 ≡ record_limit - (s.count + 1) = omega arith in
      let i : upcoming l at left s ≡ stretch_by (Ok (found.Record step next)) k (λ m. stretch_from (record_limit - (s.count + 1)) l m k) =
      stretch_found l at left p k t (record_limit - s.count) (omega arith) (Ok (found.Record step next)) e
      ∙ ap (λ (n : ℕ). stretch_by (Ok (found.Record step next)) k (λ m. stretch_from n l m k)) j in
      rw f record {
        state_is = ap (λ (u : Stretch). after s u.steps) (sym i) ∙ w.state_is;
        left_is = ap (λ (u : Stretch). u.left) (sym i) ∙ w.left_is;
        stop_is = ap (λ (u : Stretch). u.stop) (sym i) ∙ w.stop_is;
      }

  -- the machine is put together anew
  pub running_out : (k : ℕ) (stop : Result Group Reason) → upcoming l at left s ≡ stopped k stop → (m : Machine) → m ≡ s.machine
      → Stretches l from rounds s₀ (state m s.memory s.count s.events) k stop
  unfolding after
  running_out k stop e m f = record {
    state_is = ap (λ (m : Machine). state m s.memory s.count s.events) f ∙ ap (λ (u : Stretch). after s u.steps) (sym e) ∙ w.state_is;
    left_is = ap (λ (u : Stretch). u.left) (sym e) ∙ w.left_is;
    stop_is = ap (λ (u : Stretch). u.stop) (sym e) ∙ w.stop_is;
  }
