-- The walk of a list, stretch by stretch and round after round. Assumes nothing.
use Rattle.std.specs.Prelude.{Result, Ok, Err}
use mathlib.Core.Path.{◌≡◌, refl, sym, ap, ◌∙◌}
use mathlib.Core.Bool.{Bool, true, false, cond, ◌&&◌}
use mathlib.Core.List.{List, ◌++◌, append_assoc, append-nil}
use Prim.Native.Nat.{ℕ, zero, suc, ◌+◌, ◌-◌, ◌<◌, ◌≤◌}
use native.Mathlib.Omega.{arith}
use borrow.Author.Tests.{ltb-true, ltb-false, le-ltb, lt-ltb, leb-true, leb-false}
use lib.Dec.{leb, ltb}
use lib.ListN.{length, length-append}
use Rattle.steps.specs.declared.Step.{Step}
use Rattle.machine.specs.declared.Machine.{Machine}
use Rattle.trace.specs.declared.Group.{Group}
use Rattle.trace.specs.declared.Found.{Found}
use Rattle.trace.specs.declared.Found.TheVariants as found
use Rattle.trace.specs.declared.Ending.{Ending}
use Rattle.trace.specs.declared.Ending.TheVariants as ending
use Rattle.trace.specs.Trace.{part, ended, found_at}
use Rattle.lines.specs.declared.Reason.{Reason}
use Rattle.lines.specs.declared.Reason.TheVariants as why
use Rattle.scripts.specs.Scripts.{record_limit, group_levels, Script, is_end, stops, follows, joins, repeated, grouped, rest, within, whole, limited}
use Rattle.scripts.proofs.Reading.{found_past, rest_none, rest_found, within_all, within_some, within_holds, repeated_some, part_some, more_left, end_is, false_true}
use Rattle.scripts.proofs.Limits.{ends, limited_end, limited_stop, limited_none}
use Rattle.records.specs.Stretches.{State, state, after, Stretch, stopped, over, place_at, left_at, stretch_by, stretch_from, Stretches}
use Rattle.player.specs.Walks.{Goes, times, admitted, Fit}
use Rattle.records.proofs.States.{after_count}
use Rattle.player.proofs.Going.{goes_room, goes_stops, go_on, after_all, go_past, go_cut}

by_depth : (A : Type 0) (depth : ℕ) → (depth ≤ group_levels → A) → (group_levels < depth → A) → A
by_depth A depth f g = go (ltb group_levels depth) refl
  where
    go : (b : Bool) → ltb group_levels depth ≡ b → A
    go true e = g (ltb-true group_levels depth e)
    go false e = f (ltb-false group_levels depth e)

-- ---- what is left to read

module _ (depth : ℕ) (l : List ℕ) where
  -- what is left of a round at a place
  abbrev round : ℕ → Script
  round at = rest (within (depth - 1)) l at

  -- what is left in all, where u is left of this round and left rounds are not done, this one among them
  abbrev upcoming : Script → ℕ → Script
  upcoming u left = record { steps = u.steps ++ repeated (left - 1) (within depth l).steps; reason = u.reason }

  -- what is known of a list at a place
  pub record Standing (at left : ℕ) : Type 0 where
    pub fit : Fit depth left l
    pub clean : depth ≤ group_levels → is_end (round at).reason ≡ true

  -- the first round
  pub standing_all : (n : ℕ) → Fit depth n l → Standing 0 n
  standing_all n f = record { fit = f; clean = λ h. ap (λ (v : Script). is_end v.reason) (within_all depth l f.deep) ∙ f.sound h }

  pub upcoming_all : (n : ℕ) → Fit depth n l → times n (within depth l) ≡ upcoming (round 0) n
  unfolding repeated
  upcoming_all n f =
      let i : 0 < n = f.some in
      let e : n ≡ suc (n - 1) = omega arith in
      ap (λ (m : ℕ). times m (within depth l)) e ∙ sym (ap (λ (v : Script). upcoming v n) (within_all depth l f.deep))

  last_round : (q : Reason) (left : ℕ) → left ≤ 1 → upcoming (stops q) left ≡ stops q
  unfolding repeated
  last_round q left h = let e : left - 1 ≡ 0 = omega arith in ap (λ (n : ℕ). record { steps = repeated n (within depth l).steps; reason = q }) e

  -- a turn begins where bytes are left
  record Turning (at left p k : ℕ) : Type 0 where
    pub same : upcoming (round at) left ≡ upcoming (round p) k
    pub stands : Standing p k
    pub inside : p < length l

  module _ (at left : ℕ) (w : Standing at left) where
    -- a list with rounds left is a group's
    more_rounds : 1 < left → depth ≤ group_levels
    more_rounds h = by_depth (depth ≤ group_levels) depth (λ i. i) (λ i. omega (arith, w.fit.once i))

    again : length l ≤ at → 1 < left → Turning at left 0 (left - 1)
    unfolding repeated
    again h i =
        let e : left - 1 ≡ suc (left - 1 - 1) = omega arith in
        let f : why.End ≡ (within depth l).reason = sym (end_is _ (w.fit.sound (more_rounds i))) in
        let fewer : Fit depth (left - 1) l = record {
          deep = w.fit.deep;
          most = w.fit.most;
          some = omega arith;
          full = w.fit.full;
          sound = w.fit.sound;
          once = λ j. omega (arith, w.fit.once j);
        } in
        record {
          same = ap (λ (v : Script). upcoming v left) (rest_none (within (depth - 1)) l at h)
              ∙ ap (λ (n : ℕ). record { steps = repeated n (within depth l).steps; reason = why.End }) e
              ∙ ap (λ (q : Reason). record { steps = (within depth l).steps ++ repeated (left - 1 - 1) (within depth l).steps; reason = q }) f
              ∙ ap (λ (v : Script). upcoming v (left - 1)) (sym (within_all depth l w.fit.deep));
          stands = standing_all (left - 1) fewer;
          inside = w.fit.full (more_rounds i);
        }

    turning_by : (a b : Bool) → ended l at ≡ a → leb left 1 ≡ b → (a && b) ≡ false → Turning at left (cond a 0 at) (cond a (left - 1) left)
    turning_by true true e f g = absurd (false_true (sym g))
    turning_by true false e f g = again (leb-true _ _ e) (leb-false _ _ f)
    turning_by false b e f g = record { same = refl; stands = w; inside = leb-false _ _ e }

    turning : over l at left ≡ false → Turning at left (place_at l at) (left_at l at left)
    turning e = turning_by (ended l at) (leb left 1) refl refl e

    over_by : (a b : Bool) → ended l at ≡ a → leb left 1 ≡ b → (a && b) ≡ true → upcoming (round at) left ≡ stops why.End
    over_by true true e f g =
        ap (λ (v : Script). upcoming v left) (rest_none (within (depth - 1)) l at (leb-true _ _ e)) ∙ last_round why.End left (leb-true _ _ f)
    over_by true false e f g = absurd (false_true g)
    over_by false b e f g = absurd (false_true g)

    -- a list that is torn or bad is the trace
    unclean : (q : Reason) → is_end q ≡ false → round at ≡ stops q → upcoming (round at) left ≡ stops q
    unclean q f e =
        let once : left ≤ 1 = by_depth (left ≤ 1) depth
        (λ j. absurd (false_true (sym f ∙ ap (λ (u : Script). is_end u.reason) (sym e) ∙ w.clean j)))
        (λ j. omega (arith, w.fit.once j)) in
        ap (λ (v : Script). upcoming v left) e ∙ last_round q left once

  -- ---- after a stretch of records

  -- after k records of at most n, by what ended them: u is what is left in all
  abbrev Left : Result Group Reason → ℕ → ℕ → ℕ → Script → Type 0
  Left (Ok g) left n k u =
      (k < n) × (u ≡ upcoming (grouped g.count (within (depth - 1) (part l g.start g.next)) (round g.next)) left)
      × (g.start < g.next) × (g.next ≤ length l) × (0 < g.count) × Fit depth left l
  Left (Err q) left n k u = limited (n - k) u ≡ stops q

  pub record Leaving (at left n : ℕ) (t : Stretch) : Type 0 where
    pub script : Script
    pub joined : upcoming (round at) left ≡ joins t.steps script
    pub most : length t.steps ≤ n
    pub after : Left t.stop t.left n (length t.steps) script

  -- one record more
  left_suc : (stop : Result Group Reason) (left n k : ℕ) (u : Script) → Left stop left n k u → Left stop left (suc n) (suc k) u
  left_suc (Ok g) left n k u w = (omega (arith, w.0), w.1, w.2, w.3, w.4, w.5)
  left_suc (Err q) left n k u w = let e : suc n - suc k ≡ n - k = omega arith in ap (λ (m : ℕ). limited m u) e ∙ w

  -- none
  leaves_at : (at left n k : ℕ) (q : Reason) → limited n (upcoming (round at) left) ≡ stops q → Leaving at left n (stopped k (Err q))
  leaves_at at left n k q e =
      let f : n - 0 ≡ n = omega arith in
      record { script = upcoming (round at) left; joined = refl; most = omega arith; after = ap (λ (m : ℕ). limited m (upcoming (round at) left)) f ∙ e }

  leaves_over : (at left n : ℕ) → Standing at left → over l at left ≡ true → Leaving at left n (stopped left (Err why.End))
  leaves_over at left n w e =
      leaves_at at left n left why.End (ap (limited n) (over_by at left w (ended l at) (leb left 1) refl refl e) ∙ limited_end n)

  -- from where the turn begins
  leaving_turn : (at left p k n : ℕ) (t : Stretch) → Turning at left p k → Leaving p k n t → Leaving at left n t
  leaving_turn at left p k n t r w = record { script = w.script; joined = r.same ∙ w.joined; most = w.most; after = w.after }

  leaving_by : (n p k : ℕ) → Standing p k → p < length l → (f : Result (Found Step) Ending) → found_at l p ≡ f
      → ((next : ℕ) → Standing next k → Leaving next k n (stretch_from n l next k))
      → Leaving p k (suc n) (stretch_by f k (λ next. stretch_from n l next k))
  leaving_by n p k s i (Ok (found.Record step next)) e h =
      let f = rest_found (within (depth - 1)) l p (Ok (found.Record step next)) e in
      let t = stretch_from n l next k in
      let w = h next (record { fit = s.fit; clean = λ j. ap (λ (u : Script). is_end u.reason) (sym f) ∙ s.clean j }) in
      record {
        script = w.script;
        joined = ap (λ (u : Script). upcoming u k) f ∙ ap (follows step) w.joined;
        most = omega (arith, w.most);
        after = left_suc t.stop t.left n (length t.steps) w.script w.after;
      }
  leaving_by n p k s i (Ok (found.Group g)) e h =
      let b = found_past l p (Ok (found.Group g)) e in
      record {
        script = upcoming (round p) k;
        joined = refl;
        most = omega arith;
        after = (
          omega arith,
          ap (λ (u : Script). upcoming u k) (rest_found (within (depth - 1)) l p (Ok (found.Group g)) e),
          b.2,
          b.1,
          b.3,
          s.fit,
        );
      }
  leaving_by n p k s i (Err ending.End) e h = absurd (omega (arith, found_past l p (Err ending.End) e))
  leaving_by n p k s i (Err ending.Torn) e h =
      leaves_at p k (suc n) k why.Torn
      (ap (limited (suc n)) (unclean p k s why.Torn refl (rest_found (within (depth - 1)) l p (Err ending.Torn) e)) ∙ limited_stop (suc n) why.Torn (omega arith))
  leaving_by n p k s i (Err ending.Bad) e h =
      leaves_at p k (suc n) k why.Bad
      (ap (limited (suc n)) (unclean p k s why.Bad refl (rest_found (within (depth - 1)) l p (Err ending.Bad) e)) ∙ limited_stop (suc n) why.Bad (omega arith))

  leaving_none : (at left : ℕ) → Standing at left → (b : Bool) → over l at left ≡ b
      → Leaving at left 0 (cond b (stopped left (Err why.End)) (stopped (left_at l at left) (Err why.Limit)))
  leaving_none at left w true e = leaves_over at left 0 w e
  leaving_none at left w false e =
      let r = turning at left w e in
      let p = place_at l at in
      let k = left_at l at left in
      leaving_turn at left p k 0 _ r
      (leaves_at p k 0 k why.Limit (limited_none 0 _ refl (λ i. simp length-append (omega (arith, more_left (depth - 1) l p r.inside i)))))

  leaving_some : (n at left : ℕ) → Standing at left → ((next k : ℕ) → Standing next k → Leaving next k n (stretch_from n l next k)) → (b : Bool) → over l at left ≡ b
      → Leaving at left (suc n)
      (cond b (stopped left (Err why.End)) (stretch_by (found_at l (place_at l at)) (left_at l at left) (λ next. stretch_from n l next (left_at l at left))))
  leaving_some n at left w h true e = leaves_over at left (suc n) w e
  leaving_some n at left w h false e =
      let r = turning at left w e in
      let p = place_at l at in
      let k = left_at l at left in
      leaving_turn at left p k (suc n) _ r (leaving_by n p k r.stands r.inside (found_at l p) refl (λ next. h next k))

  pub leaving : (n at left : ℕ) → Standing at left → Leaving at left n (stretch_from n l at left)
  unfolding stretch_from
  leaving zero at left w = leaving_none at left w (over l at left) refl
  leaving (suc n) at left w = leaving_some n at left w (leaving n) (over l at left) refl

-- ---- the walk's loop

-- what the walk knows at a place: o and r are where all of it leads, and why it stops there
pub record Walking (o : State) (r : Reason) (depth : ℕ) (l : List ℕ) (s : State) (at left : ℕ) : Type 0 where
  pub stands : Standing depth l at left
  pub room : s.count ≤ record_limit
  pub same : Goes s (upcoming depth l (round depth l at) left) o r

pub walking_all : (depth : ℕ) (l : List ℕ) (s : State) (n : ℕ) → Fit depth n l → s.count ≤ record_limit
    → (o : State) (r : Reason) → Goes s (times n (within depth l)) o r → Walking o r depth l s 0 n
walking_all depth l s n f j o r g = record { stands = standing_all depth l n f; room = j; same = rw (upcoming_all depth l n f) at g }

-- a group's script is whole where what it is part of is
grouped_end : (b : Bool) (u v : Script) → v ≡ cond b u (stops why.Bad) → is_end v.reason ≡ true → b ≡ true
grouped_end true u v e h = refl
grouped_end false u v e h = absurd (false_true (rw e at h))

times_ends : (n : ℕ) (h : Script) → is_end h.reason ≡ true → times n h ≡ ends (repeated n h.steps)
times_ends n h e = ap (λ (q : Reason). record { steps = repeated n h.steps; reason = q }) (end_is _ e)

module _ {depth : ℕ} {l : List ℕ} {s o : State} {r : Reason} {at left : ℕ} (w : Walking o r depth l s at left)
    {m : Machine} (anew : m ≡ s.machine) {s' : State} {k : ℕ} {stop : Result Group Reason}
    (ran-anew : Stretches l at left (state m s.memory s.count s.events) s' k stop) where
  g : Stretches l at left s s' k stop
  g = rw anew at ran-anew

  abbrev run : List Step
  run = (stretch_from (record_limit - s.count) l at left).steps

  abbrev leaves : Leaving depth l at left (record_limit - s.count) (stretch_from (record_limit - s.count) l at left)
  leaves = leaving depth l (record_limit - s.count) at left w.stands

  count_is : s'.count ≡ s.count + length run
  count_is = ap (λ (t : State). t.count) g.state_is ∙ after_count s run

  room : s'.count ≤ record_limit
  room = omega (arith, count_is, leaves.most, w.room)

  ran : Goes s' leaves.script o r
  ran = rw g.state_is (go_on s o r _ w.same run leaves.script leaves.joined leaves.most)

  by_stop : (q : Result Group Reason) → stop ≡ q → Left depth l q k (record_limit - s.count) (length run) leaves.script
  by_stop q e = rw (sym e ∙ g.stop_is, g.left_is) leaves.after

  -- a reason to stop
  pub run_out : {q : Reason} → stop ≡ Err q → (s' ≡ o) × (q ≡ r)
  run_out {q} e =
      let f : record_limit - s'.count ≡ record_limit - s.count - length run = omega (arith, count_is, leaves.most, w.room) in
      goes_stops s' o r leaves.script ran q (ap (λ (n : ℕ). limited n leaves.script) f ∙ by_stop (Err q) e)

  -- a group
  module _ {group : Group} (e : stop ≡ Ok group) where
    abbrev list : List ℕ
    list = part l group.start group.next

    abbrev inner : Script
    inner = within (depth - 1) list

    abbrev found_group : Script
    found_group = grouped group.count inner (round depth l group.next)

    fit : Fit depth k l
    fit = (by_stop (Ok group) e).5

    script_is : leaves.script ≡ upcoming depth l found_group k
    script_is = (by_stop (Ok group) e).1

    clean : depth ≤ group_levels → is_end found_group.reason ≡ true
    clean j = ap (λ (u : Script). is_end u.reason) (sym (leaves.joined ∙ ap (joins run) script_is)) ∙ w.stands.clean j

    pub group_room : s'.count < record_limit
    group_room = omega (arith, (by_stop (Ok group) e).0, count_is)

    pub group_bounds : (group.start < group.next) × (group.next ≤ length l) × (0 < group.count)
    group_bounds = let f = by_stop (Ok group) e in (f.2, f.3, f.4)

    module _ {b : Bool} (a : b ≡ admitted (depth - 1) list) where
      outermost : group_levels < depth → b ≡ is_end inner.reason
      unfolding admitted
      outermost j = rw (le-ltb (depth - 1) group_levels (omega arith)) at a

      inmost : depth ≤ group_levels → b ≡ true
      unfolding admitted
      inmost j = let d = fit.deep in rw (lt-ltb (depth - 1) group_levels (omega arith)) at a

      -- it is bad: so it stands in the trace
      pub run_unsound : b ≡ false → (s' ≡ o) × (why.Bad ≡ r)
      run_unsound f =
          let unsound : is_end inner.reason ≡ false = by_depth _ depth (λ j. absurd (false_true (sym f ∙ inmost j))) (λ j. sym (outermost j) ∙ f) in
          let once : k ≤ 1 = by_depth (k ≤ 1) depth (λ j. absurd (false_true (sym f ∙ inmost j))) (λ j. omega (arith, fit.once j)) in
          let bad : found_group ≡ stops why.Bad = rw unsound in
          let i = group_room in
          goes_stops s' o r leaves.script ran why.Bad
          (ap (limited (record_limit - s'.count)) (script_is ∙ ap (λ (u : Script). upcoming depth l u k) bad ∙ last_round depth l why.Bad k once)
          ∙ limited_stop (record_limit - s'.count) why.Bad (omega arith))

      module _ (f : b ≡ true) where
        sound : is_end inner.reason ≡ true
        sound = by_depth _ depth
            (λ j. grouped_end (is_end inner.reason) (joins (repeated group.count inner.steps) (round depth l group.next)) found_group refl (clean j))
            (λ j. sym (outermost j) ∙ f)

        full : 0 < length list
        full = part_some l group.start group.next group_bounds.0 group_bounds.1

        pub run_fit : Fit (depth - 1) group.count list
        run_fit = record {
          deep = within_some (depth - 1) list sound;
          most = omega (arith, fit.most);
          some = group_bounds.2;
          full = λ j. full;
          sound = λ j. sound;
          once = λ j. absurd (omega (arith, fit.most));
        }

        module _ {m' : Machine} (anew' : m' ≡ s'.machine) {s'' : State} {q : Reason}
            (goes : Goes (state m' s'.memory s'.count s'.events) (times group.count inner) s'' q) where
          abbrev written : List Step
          written = repeated group.count inner.steps

          goes_ends : Goes s' (ends written) s'' q
          goes_ends = rw (anew', times_ends group.count inner sound) at goes

          group_is : found_group ≡ joins written (round depth l group.next)
          group_is = rw sound

          joined : leaves.script ≡ joins written (upcoming depth l (round depth l group.next) k)
          joined = script_is ∙ ap (λ (u : Script). upcoming depth l u k) group_is ∙ rw append_assoc

          pub run_group : q ≡ why.End → Walking o r depth l s'' group.next k
          run_group j = record {
            stands = record { fit = fit; clean = λ i. ap (λ (u : Script). is_end u.reason) (sym group_is) ∙ clean i };
            room = goes_room s' (ends written) s'' q goes_ends room;
            same = go_past s' o r _ ran written _ joined s'' q goes_ends j;
          }

          -- it had a record
          pub run_further : q ≡ why.End → s.count < s''.count
          run_further j =
              let i : 0 < length written = repeated_some group.count inner.steps group_bounds.2 (within_holds (depth - 1) list full sound) in
              let c : s''.count ≡ s'.count + length written =
              ap (λ (t : State). t.count) (after_all s' o r _ ran written _ joined s'' q goes_ends j) ∙ after_count s' written in
              omega (arith, c, count_is)

          pub run_cut : (q ≡ why.End → ⊥) → (s'' ≡ o) × (why.Limit ≡ r)
          run_cut j = go_cut s' o r _ ran written _ joined s'' q goes_ends j

-- where the walk leaves, from where it began
pub from_start : {s₀ s : State} {t : Script} {q : Reason}
    → let u = limited (record_limit - s₀.count) t in (s ≡ after s₀ u.steps) × (q ≡ u.reason) → Goes s₀ t s q
from_start p = record { state_is = p.0; reason_is = p.1 }

-- ---- the trace

pub trace_fit : (l : List ℕ) → Fit (group_levels + 1) 1 l
trace_fit l = record {
  deep = omega arith;
  most = omega arith;
  some = omega arith;
  full = λ h. absurd (omega arith);
  sound = λ h. absurd (omega arith);
  once = λ h. refl;
}

-- it is the list of a level above the groups, and run once
pub trace_once : (l : List ℕ) → times 1 (within (group_levels + 1) l) ≡ whole l
unfolding within repeated
trace_once l = ap (λ (ts : List Step). record { steps = ts; reason = (whole l).reason }) (append-nil (whole l).steps)
