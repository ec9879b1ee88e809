-- What the exported player leaves, and the numbers by which it says why it stopped.
use Rattle.std.specs.Prelude.{◌≡◌, true, List, [], ◌∷◌, ℕ, get_or}
use Rattle.steps.specs.declared.Step.TheVariants.{Read}
use Rattle.steps.specs.declared.Answer.TheVariants.{Value}
use Rattle.events.specs.Events.{event, noted}
use Rattle.memory.specs.Memory.{Memories}
use Rattle.settings.specs.declared.Edition.{Edition}
use Rattle.machine.specs.Machines.{reset_machine}
use Rattle.lines.specs.Lines.{word_of}
use Rattle.lines.specs.declared.Reason.{Reason}
use Rattle.lines.specs.declared.Reason.TheVariants.{End, Limit, Torn, Bad}
use Rattle.scripts.specs.Scripts.{script_of}
use Rattle.player.specs.Player.{playing, Leaves}

abbrev pub reason_number : Reason → ℕ
reason_number End = 0
reason_number Limit = 1
reason_number Torn = 2
reason_number Bad = 3

-- The words that the programs print for them (01, "Trace player"), "end", "limit", "torn" and "bad", in the order of these numbers: with them a
-- replay says the reason a second time.
abbrev pub reason_words : List (List ℕ)
reason_words =
    (0x65 ∷ 0x6e ∷ 0x64 ∷ 0x0a ∷ [])
    ∷ (0x6c ∷ 0x69 ∷ 0x6d ∷ 0x69 ∷ 0x74 ∷ 0x0a ∷ [])
    ∷ (0x74 ∷ 0x6f ∷ 0x72 ∷ 0x6e ∷ 0x0a ∷ [])
    ∷ (0x62 ∷ 0x61 ∷ 0x64 ∷ 0x0a ∷ [])
    ∷ []

-- an event as the header takes it apart, by one that has something everywhere: inside the mode, a read, kind 3, was answered 6 with the value ABh
abbrev pub EventInNumbers : Type 0
EventInNumbers = noted (event (Read 1 0) true (Value 0xab)) ≡ 0x000000ab00010306

-- a replay of a trace from reset, in an edition, on memories x: the count of records, the memories, the events in the lent list, and the number
-- of the reason
pub record Replays (e : Edition) (trace : List ℕ) (x : Memories) (count : ℕ) (x' : Memories) (events₀ events : List ℕ) (reason : ℕ) : Type 0 where
  pub leaves : Leaves (script_of trace) (playing (reset_machine e) x trace) count x' events₀ events
  pub reason_is : reason ≡ reason_number (script_of trace).reason

-- and of that number, that it finds the word
abbrev pub SaysWord : List ℕ → ℕ → Type 0
SaysWord trace reason = get_or reason_words reason [] ≡ word_of (script_of trace).reason
