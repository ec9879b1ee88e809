-- What demand 3 says of the player: two replays of one trace, from one machine that is outside the mode with SMI_LOCK set and SMAC clear, over
-- one main memory and two management memories of one size, print the same lines up to and including the first "entered", if the trace holds
-- no reset. The program `replay` starts from reset, where the lock is clear: so the claim is about replays from a machine that is locked
-- already.
use Rattle.std.specs.Prelude.{ℕ, ◌≡◌, List, [], ◌∷◌, length, take}
use Rattle.memory.specs.Memory.{Memories, memories}
use Rattle.machine.specs.declared.Machine.{Machine}
use Rattle.runs.specs.Runs.{answers_of}
use Rattle.lines.specs.Lines.{lines_of}
use Rattle.scripts.specs.Scripts.{script_of}
use Rattle.player.specs.Player.{playing}
use Rattle.player.specs.Output.{replay_text}
use Rattle.isolation.specs.Isolation.{Start, NoReset, through_entry}
use Rattle.settings.specs.declared.Edition.TheVariants.{Mii}
use Rattle.isolation.specs.Examples.{locked, filled}

-- the lines of a replay up to and including the first "entered", answer 11
abbrev pub lines_through_entry : Machine → Memories → List ℕ → List ℕ
lines_through_entry m x trace = lines_of (through_entry (answers_of (playing m x trace)))

-- a text begins with them, whatever stopped the replay
abbrev pub Begins : List ℕ → List ℕ → Type 0
Begins text start = take (length start) text ≡ start

abbrev pub SameLines : Type 0
SameLines =
    (m : Machine) (main g h trace : List ℕ) → Start m → length g ≡ length h → NoReset (script_of trace).steps
    → let x = memories main g in
    let y = memories main h in
    (lines_through_entry m x trace ≡ lines_through_entry m y trace)
    × Begins (replay_text m x trace) (lines_through_entry m x trace)
    × Begins (replay_text m y trace) (lines_through_entry m y trace)

-- an example of what is asked: a trace of one group, which has a wake twice, and two management memories that differ
abbrev pub wake_twice : List ℕ
wake_twice = 8 ∷ 0 ∷ 16 ∷ 0 ∷ 2 ∷ 0 ∷ 2 ∷ 0 ∷ 10 ∷ 0 ∷ []

pub record LinesExample : Type 0 where
  pub start : Start (locked Mii)
  pub equal : length (filled 0).management ≡ length (filled 1).management
  pub some : length (script_of wake_twice).steps ≡ 2
  pub none : NoReset (script_of wake_twice).steps
