-- 01, "Trace player": what playing the steps of a trace leaves.
use Rattle.std.specs.Prelude.{◌≡◌, ℕ, List, map, length}
use Rattle.std.proofs.lemmas.List.Edits.{sets}
use Rattle.memory.specs.Memory.{Memories}
use Rattle.events.specs.Events.{noted}
use Rattle.machine.specs.declared.Machine.{Machine}
use Rattle.runs.specs.Runs.{Run, run}
use Rattle.scripts.specs.Scripts.{Script, script_of}
use Rattle.player.specs.declared.Played.{Played}

-- all the steps that the trace holds are run: a refused one doesn't stop the player
abbrev pub playing : Machine → Memories → List ℕ → Run
playing m x trace = run m x (script_of trace).steps

-- what the player leaves of a script's run: as many records as steps, the memories x, and in a lent list what was noted of each
pub record Leaves (t : Script) (r : Run) (count : ℕ) (x : Memories) (events₀ events : List ℕ) : Type 0 where
  pub count_is : count ≡ length t.steps
  pub memory_is : x ≡ r.memory
  pub events_are : events ≡ sets events₀ 0 (map noted r.events)

-- and what it hands back
pub record Plays (t : Script) (r : Run) (p : Played) (x : Memories) (events₀ events : List ℕ) : Type 0 where
  pub machine_is : p.machine ≡ r.machine
  pub reason_is : p.reason ≡ t.reason
  pub leaves : Leaves t r p.count x events₀ events
