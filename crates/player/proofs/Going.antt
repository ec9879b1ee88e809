-- Playing a script up to the limit, step by step and group by group. Assumes nothing.
use mathlib.Core.Path.{◌≡◌, sym, ap, ◌∙◌}
use mathlib.Core.List.{List}
use Prim.Native.Nat.{ℕ, ◌+◌, ◌-◌, ◌<◌, ◌≤◌}
use native.Mathlib.Omega.{arith}
use lib.ListN.{length}
use Rattle.steps.specs.declared.Step.{Step}
use Rattle.lines.specs.declared.Reason.{Reason}
use Rattle.lines.specs.declared.Reason.TheVariants as why
use Rattle.scripts.specs.Scripts.{record_limit, Script, stops, joins, limited}
use Rattle.scripts.proofs.Limits.{ends, limited_joins, limited_all, limited_cut, end_fits, not_end_cut, cut_limit, limited_within}
use Rattle.records.specs.Stretches.{State, after}
use Rattle.player.specs.Walks.{Goes}
use Rattle.records.proofs.States.{after-append, after_count}

-- what a script holds, up to what is left of the limit
abbrev taken : State → Script → Script
taken s h = limited (record_limit - s.count) h

-- no more than the limit
pub goes_room : (s : State) (h : Script) (o : State) (r : Reason) → Goes s h o r → s.count ≤ record_limit → o.count ≤ record_limit
goes_room s h o r g i =
    let e : o.count ≡ s.count + length (taken s h).steps = ap (λ (t : State). t.count) g.state_is ∙ after_count s (taken s h).steps in
    omega (arith, limited_within (record_limit - s.count) h)

module _ (s o : State) (r : Reason) (h : Script) (g : Goes s h o r) where
  -- no steps are left of it
  pub goes_stops : (q : Reason) → taken s h ≡ stops q → (s ≡ o) × (q ≡ r)
  unfolding after
  goes_stops q e = (sym (g.state_is ∙ ap (λ (t : Script). after s t.steps) e), sym (g.reason_is ∙ ap (λ (t : Script). t.reason) e))

  -- some steps, and then the rest
  module _ (ss : List Step) (u : Script) (e : h ≡ joins ss u) where
    pub go_on : length ss ≤ record_limit - s.count → Goes (after s ss) u o r
    go_on i =
        let n = record_limit - s.count in
        let k : n - length ss ≡ record_limit - (after s ss).count = omega (arith, after_count s ss) in
        let f : taken s h ≡ joins ss (taken (after s ss) u) =
        ap (taken s) e ∙ limited_joins ss n u i ∙ ap (λ (m : ℕ). joins ss (limited m u)) k in
        record {
          state_is = g.state_is ∙ ap (λ (t : Script). after s t.steps) f ∙ after-append s ss (taken (after s ss) u).steps;
          reason_is = g.reason_is ∙ ap (λ (t : Script). t.reason) f;
        }

    -- a group's steps, which were played up to the limit
    module _ (s' : State) (q : Reason) (f : Goes s (ends ss) s' q) where
      fits : q ≡ why.End → length ss ≤ record_limit - s.count
      fits j = end_fits ss (record_limit - s.count) (sym f.reason_is ∙ j)

      -- all of them
      pub after_all : q ≡ why.End → s' ≡ after s ss
      after_all j = f.state_is ∙ ap (λ (t : Script). after s t.steps) (limited_all ss (record_limit - s.count) (fits j))

      pub go_past : q ≡ why.End → Goes s' u o r
      go_past j = rw (after_all j) (go_on (fits j))

      -- not all of them
      pub go_cut : (q ≡ why.End → ⊥) → (s' ≡ o) × (why.Limit ≡ r)
      go_cut j =
          let n = record_limit - s.count in
          let short : n < length ss = not_end_cut ss n (λ p. j (f.reason_is ∙ p)) in
          let same : taken s h ≡ taken s (ends ss) = ap (taken s) e ∙ limited_cut ss n u short in (
            f.state_is ∙ sym (g.state_is ∙ ap (λ (t : Script). after s t.steps) same),
            sym (g.reason_is ∙ ap (λ (t : Script). t.reason) same ∙ cut_limit ss n short),
          )
