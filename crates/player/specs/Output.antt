-- 01, "Trace player", and 02, request 1: all that the program of either edition prints, from what it reads.
use Rattle.std.specs.Prelude.{cond, List, ℕ, leb, length, replicate}
use Rattle.memory.specs.Memory.{Memories, memories}
use Rattle.settings.specs.declared.Edition.{Edition}
use Rattle.machine.specs.declared.Machine.{Machine}
use Rattle.machine.specs.Machines.{reset_machine}
use Rattle.runs.specs.Runs.{answers_of}
use Rattle.lines.specs.Lines.{text_of, long_text}
use Rattle.scripts.specs.Scripts.{script_of}
use Rattle.player.specs.Player.{playing}

-- the text of a replay
abbrev pub replay_text : Machine → Memories → List ℕ → List ℕ
replay_text m x trace = text_of (answers_of (playing m x trace)) (script_of trace).reason

-- both memories are 65,536 zero bytes
abbrev pub zero_memories : Memories
zero_memories = memories (replicate 65536 0) (replicate 65536 0)

-- a replay from reset, of at most 65,536 bytes of input
unfoldable pub output_of : Edition → List ℕ → List ℕ
output_of e input = cond (leb (length input) 65536) (replay_text (reset_machine e) zero_memories input) long_text
