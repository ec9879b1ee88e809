-- Demand 3. Take a machine of either edition that is outside management mode with SMI_LOCK set and SMAC clear, a main memory, and two
-- management memories of one size. Give both the same list of steps, none of them a reset. Up to and including the first step that either
-- answers with "entered", answers, machines and main memories are the same in both, the edition and its locked settings are as at the
-- start, but that entry may clear N (02, request 7), and each management memory is as it was at its own start, but for the 48 bytes that
-- entry writes at the edition's header place, which are the same in both.
use Rattle.std.specs.Prelude.{ℕ, ◌-◌, ◌<◌, suc, ◌≡◌, true, false, cond, List, [], ◌∷◌, eqb, length, get_or, take}
use Rattle.memory.specs.Memory.{memories}
use Rattle.steps.specs.declared.Answer.{Answer}
use Rattle.steps.specs.declared.Answer.TheVariants.{Done}
use Rattle.steps.specs.declared.Step.{Step}
use Rattle.steps.specs.declared.Step.TheVariants.{Reset, Wake}
use Rattle.steps.specs.Answers.{number_of}
use Rattle.settings.specs.Settings.{smi_lock, smac, header_place}
use Rattle.settings_laws.specs.Locked.{Fixed, SettingsFit}
use Rattle.nesting.specs.Nesting.{entered_settings}
use Rattle.header.specs.declared.Saved.{Saved}
use Rattle.header.specs.Header.{header_bytes}
use Rattle.machine.specs.declared.Machine.{Machine}
use Rattle.machine.specs.Machines.{settings_of, edition_of}
use Rattle.runs.specs.Runs.{Run, run, answers_of}
use Rattle.isolation.specs.Service.{OnlyHeader}

-- what is asked of the machine at the start
pub record Start (m : Machine) : Type 0 where
  pub outside : m.inside ≡ false
  pub locked : smi_lock (settings_of m) ≡ true
  pub closed : smac (settings_of m) ≡ false
  -- its stored bytes are bytes, as those of every machine of the code's own type are
  pub bytes : SettingsFit (settings_of m)
  -- The machine may be halted and have an SMI latched, and the memories may be of wrong sizes.

-- and of the steps
abbrev pub NoReset : List Step → Type 0
NoReset ss = (i : ℕ) → i < length ss → get_or ss i Wake ≡ Reset → ⊥

-- no answer but the last, if any, is "entered", answer 11: the steps end at or before the first entry
abbrev pub UpToEntry : List Answer → Type 0
UpToEntry answers = (i : ℕ) → suc i < length answers → number_of (get_or answers i Done) ≡ 11 → ⊥

-- the number of the last answer; 0, which is "done", where there is none
abbrev pub last_number : List Answer → ℕ
last_number answers = number_of (get_or answers (length answers - 1) Done)

-- both memories got the header of one record, at the place that the settings of the start give; the record is the one of EntersAsStated
pub record SameHeader (m : Machine) (g h g' h' : List ℕ) : Type 0 where
  pub saved : Saved
  pub first : OnlyHeader g g' (header_place (settings_of m)) (header_bytes saved)
  pub second : OnlyHeader h h' (header_place (settings_of m)) (header_bytes saved)

-- two runs that began on the machine m, with management memories g and h
pub record Agree (m : Machine) (g h : List ℕ) (a b : Run) : Type 0 where
  pub events : a.events ≡ b.events
  pub machine : a.machine ≡ b.machine
  pub main : a.memory.main ≡ b.memory.main
  pub edition : edition_of a.machine ≡ edition_of m
  -- before entry
  pub kept : (last_number (answers_of a) ≡ 11 → ⊥) → Fixed (edition_of m) (settings_of a.machine) (settings_of m)
  pub before : (last_number (answers_of a) ≡ 11 → ⊥) → (a.memory.management ≡ g) × (b.memory.management ≡ h)
  -- at entry
  pub moved : last_number (answers_of a) ≡ 11 → Fixed (edition_of m) (settings_of a.machine) (entered_settings (settings_of m))
  pub entered : last_number (answers_of a) ≡ 11 → SameHeader m g h a.memory.management b.memory.management

-- the claim: any such machine, memories and list of steps; after any number k of the steps, of which none is a reset
abbrev pub Isolated : Type 0
Isolated =
    (m : Machine) (main g h : List ℕ) (ss : List Step) (k : ℕ) → Start m → length g ≡ length h → NoReset (take k ss)
    → let a = run m (memories main g) (take k ss) in
    let b = run m (memories main h) (take k ss) in
    UpToEntry (answers_of a) → UpToEntry (answers_of b) → Agree m g h a b

-- the answers up to and including the first that is "entered"
unfoldable pub through_entry : List Answer → List Answer
through_entry [] = []
through_entry (a ∷ rest) = cond (eqb (number_of a) 11) (a ∷ []) (a ∷ through_entry rest)

-- the same claim of the answers alone: whatever the whole list goes on to do, they are the same up to the first entry
abbrev pub SameAnswers : Type 0
SameAnswers =
    (m : Machine) (main g h : List ℕ) (ss : List Step) → Start m → length g ≡ length h → NoReset ss
    → through_entry (answers_of (run m (memories main g) ss)) ≡ through_entry (answers_of (run m (memories main h) ss))
