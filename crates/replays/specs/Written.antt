-- 02, request 6, of the player: a group is played as its list written out in full, "same lines, same final state, same 10,000-record limit".
use Rattle.std.specs.Prelude.{ℕ, ◌+◌, ◌<◌, ◌≡◌, true, List, ◌++◌, length}
use Rattle.memory.specs.Memory.{Memories}
use Rattle.machine.specs.declared.Machine.{Machine}
use Rattle.scripts.specs.Scripts.{group_levels, is_end, whole, within}
use Rattle.scripts.specs.Former.{one_wake}
use Rattle.scripts.specs.Written.{copies, group_bytes, grouping, by_group, in_full}
use Rattle.player.specs.Player.{playing}
use Rattle.player.specs.Output.{replay_text}

-- A group that isn't bad, of any count and list that its fields can hold, after records that are read to their end and before anything else:
-- the same text, and the same machine, memories and log.
abbrev pub PlaysWritten : Type 0
PlaysWritten =
    (m : Machine) (x : Memories) (count : ℕ) (p l q : List ℕ) → 0 < count → count < 65536 → 0 < length l → length l + 4 < 65536
    → is_end (whole p).reason ≡ true → is_end (within group_levels l).reason ≡ true
    → (replay_text m x (p ++ group_bytes count l ++ q) ≡ replay_text m x (p ++ copies count l ++ q))
    × (playing m x (p ++ group_bytes count l ++ q) ≡ playing m x (p ++ copies count l ++ q))

-- examples: every count, and as many wakes as a group has room for; and a list with groups in it
pub record Played (m : Machine) (x : Memories) (count : ℕ) (l : List ℕ) : Type 0 where
  pub text : replay_text m x (by_group count l) ≡ replay_text m x (in_full count l)
  pub machine : (playing m x (by_group count l)).machine ≡ (playing m x (in_full count l)).machine
  pub memory : (playing m x (by_group count l)).memory ≡ (playing m x (in_full count l)).memory

pub record WrittenExamples (m : Machine) (x : Memories) : Type 0 where
  pub counts : (count n : ℕ) → 0 < count → count < 65536 → 0 < n → n < 16383 → Played m x count (copies n one_wake)
  pub groups : Played m x 5 grouping
