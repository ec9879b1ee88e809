-- What the player's own functions promise each other: how playing goes on from where it stands. No public contract of the player names it.
use Rattle.std.specs.Prelude.{◌≡◌, ℕ, ◌+◌, ◌-◌, ◌<◌, ◌≤◌, Bool, true, cond, List, ltb, length}
use Rattle.lines.specs.declared.Reason.{Reason}
use Rattle.scripts.specs.Scripts.{record_limit, group_levels, Script, is_end, repeated, within, limited}
use Rattle.records.specs.Stretches.{State, after}

-- from s to u, by the steps of a script up to the limit
pub record Goes (s : State) (t : Script) (u : State) (reason : Reason) : Type 0 where
  pub state_is : u ≡ after s (limited (record_limit - s.count) t).steps
  pub reason_is : reason ≡ (limited (record_limit - s.count) t).reason

-- a list's script, as often as a count says
abbrev pub times : ℕ → Script → Script
times count t = record { steps = repeated count t.steps; reason = t.reason }

-- a group's list is read through where its group is an outermost one
unfoldable pub admitted : ℕ → List ℕ → Bool
admitted depth l = cond (ltb depth group_levels) true (is_end (within depth l).reason)

-- What is asked of a list that is run a number of rounds, where depth levels are left, its own among them: a group's is sound and not empty;
-- a trace, which is a level above, is run once.
pub record Fit (depth rounds : ℕ) (l : List ℕ) : Type 0 where
  pub deep : 0 < depth
  pub most : depth ≤ group_levels + 1
  pub some : 0 < rounds
  pub full : depth ≤ group_levels → 0 < length l
  pub sound : depth ≤ group_levels → is_end (within depth l).reason ≡ true
  pub once : group_levels < depth → rounds ≡ 1
