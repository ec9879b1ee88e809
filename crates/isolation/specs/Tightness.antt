-- How tight the statements are (01): for each hypothesis and each definition that stands only in a claim, a law that fails where it asks for
-- more or says less. `Entering` and `Resuming` need none here, as the theorems go both ways between them and the answers 11 and 12; the
-- widths have theirs in the functions `widths` of steps and of this crate.
use Rattle.std.specs.Prelude.{ℕ, ◌/◌, ◌%◌, ◌<◌, ◌≡◌, false, List, [], ◌∷◌, ◌++◌, eqb, length, get_or}
use Rattle.std.proofs.lemmas.List.Edits.{sets}
use Rattle.memory.specs.Memory.{Memories, memories}
use Rattle.steps.specs.declared.Answer.{Answer}
use Rattle.steps.specs.declared.Answer.TheVariants.{Done, Resumed}
use Rattle.steps.specs.declared.Step.{Step}
use Rattle.steps.specs.declared.Step.TheVariants.{Reset, Opcode, Boundary}
use Rattle.steps.specs.declared.Interruption.{Interruption}
use Rattle.steps.specs.Answers.{number_of}
use Rattle.steps.specs.Widths.{StepFits}
use Rattle.refusals.specs.Refusals.{malformed_on}
use Rattle.settings.specs.Settings.{header_place}
use Rattle.settings_laws.specs.Locked.{Fixed}
use Rattle.nesting.specs.Nesting.{entered_settings, resumed_settings}
use Rattle.header.specs.Header.{header_bytes, word_in, with_eip}
use Rattle.header.specs.Header.Word.{CurrentIp, NextIp}
use Rattle.machine.specs.declared.Machine.{Machine}
use Rattle.machine.specs.Machines.{machine, settings_of, edition_of, with_settings}
use Rattle.machine.specs.Outcomes.{Outcome, gives, ends}
use Rattle.machine.specs.Service.{saved_at_boundary, entry, passed, resume}
use Rattle.machine.specs.Steps.{stepped}
use Rattle.runs.specs.Runs.{Run, run, answers_of}
use Rattle.isolation.specs.Widths.{MachineFits}
use Rattle.isolation.specs.Service.{answer_to, OnlyHeader, Entering, recorded, latch_after, Entry, Passing, Resumption, Resume, PointersBy}
use Rattle.isolation.specs.Isolation.{Start, NoReset, UpToEntry, last_number, Agree, through_entry}

-- ---- the hypotheses ask for no more

-- CCR3 bit 0 set, CCR1 bit 2 clear, outside the mode, and numbers of their widths
abbrev pub StartAsked : Type 0
StartAsked =
    (m : Machine) → m.inside ≡ false → m.config.settings.ccr3 % 2 ≡ 1 → m.config.settings.ccr1 / 4 % 2 ≡ 0 → MachineFits m → Start m

-- any steps that are not resets
abbrev pub NoResetAsked : Type 0
NoResetAsked = NoReset [] × ((s : Step) (ss : List Step) → (s ≡ Reset → ⊥) → NoReset ss → NoReset (s ∷ ss))

-- the first entry may be the last step
abbrev pub UpToEntryAsked : Type 0
UpToEntryAsked =
    UpToEntry []
    × ((a : Answer) → UpToEntry (a ∷ []))
    × ((a b : Answer) (bs : List Answer) → (number_of a ≡ 11 → ⊥) → UpToEntry (b ∷ bs) → UpToEntry (a ∷ b ∷ bs))

abbrev pub LastIsLast : Type 0
LastIsLast = (bs : List Answer) (a : Answer) → last_number (bs ++ (a ∷ [])) ≡ number_of a

-- no answer is "entered"
abbrev pub NoEntry : List Answer → Type 0
NoEntry answers = (i : ℕ) → i < length answers → number_of (get_or answers i Done) ≡ 11 → ⊥

-- the answers compared are all of them where none is "entered", and else those before the first such and that one
abbrev pub ThroughEntryAsked : Type 0
ThroughEntryAsked =
    ((bs cs : List Answer) (a : Answer) → NoEntry bs → number_of a ≡ 11 → through_entry (bs ++ (a ∷ cs)) ≡ bs ++ (a ∷ []))
    × ((bs : List Answer) → NoEntry bs → through_entry bs ≡ bs)

-- the whole list is one of the beginnings that the claim speaks of
abbrev pub WholeList : Type 0
WholeList =
    (m : Machine) (main g h : List ℕ) (ss : List Step) → Start m → length g ≡ length h → NoReset ss
    → UpToEntry (answers_of (run m (memories main g) ss)) → UpToEntry (answers_of (run m (memories main h) ss))
    → Agree m g h (run m (memories main g) ss) (run m (memories main h) ss)

-- ---- the claims leave nothing open

-- every byte of a memory with a header in it
abbrev pub HeaderDetermines : Type 0
HeaderDetermines = (g g' : List ℕ) (at : ℕ) (bytes : List ℕ) → OnlyHeader g g' at bytes → g' ≡ sets g at bytes

-- every register and byte after entry
abbrev pub EntryDetermines : Type 0
EntryDetermines =
    (m : Machine) (x : Memories) (s : Step) (o : Outcome) → number_of o.stepped.answer ≡ 11 → (e : Entry m x s o)
    → o ≡ entry m x (recorded m e.by) (latch_after m e.by)

-- and after RSM
abbrev pub ResumptionDetermines : Type 0
ResumptionDetermines =
    (m : Machine) (x : Memories) (s : Step) (o : Outcome) → number_of o.stepped.answer ≡ 12 → Resumption m x s o
    → o ≡ ends (resume m x.management) x

-- and after RSM right after entry
abbrev pub ResumeDetermines : Type 0
ResumeDetermines =
    (m : Machine) (s : Step) (by : Entering m s) (e o : Outcome) → Resume m s by e o
    → o
    ≡ ends
    (gives
    (with_settings
    (machine (with_eip m.registers (recorded m by).next) m.segments false m.inside e.stepped.machine.latched m.config)
    (resumed_settings (settings_of m)))
    Resumed)
    e.memory

-- and after a boundary that passes
abbrev pub PassingDetermines : Type 0
PassingDetermines = (m : Machine) (x : Memories) (smi : ℕ) (o : Outcome) → Passing m x smi o → o ≡ ends (passed m (eqb smi 1)) x

-- and the IP words of a well-formed boundary, with EIP after RSM
abbrev pub PointersDetermine : Type 0
PointersDetermine =
    (m : Machine) (smi current : ℕ) (i : Interruption) (e o : Outcome) → malformed_on m.halted (Boundary smi current i) ≡ false
    → PointersBy m current i e o
    → let s = saved_at_boundary m current i in
    let word = word_in e.memory.management (header_place (settings_of m)) in
    (word CurrentIp ≡ s.current) × (word NextIp ≡ s.next) × (o.stepped.machine.registers.eip ≡ s.next)

-- so they are recorded at every boundary that enters, from outside the mode or from inside
abbrev pub IpRecorded : Machine → ℕ → Interruption → Outcome → Outcome → Type 0
IpRecorded m current i e o =
    let s = saved_at_boundary m current i in
    let word = word_in e.memory.management (header_place (settings_of m)) in
    (word CurrentIp ≡ s.current) × (word NextIp ≡ s.next) × (o.stepped.machine.registers.eip ≡ s.next)

abbrev pub PointersRecorded : Type 0
PointersRecorded =
    (m : Machine) (x : Memories) (smi current : ℕ) (i : Interruption) (modrm a next : ℕ) → MachineFits m → StepFits (Boundary smi current i)
    → answer_to m x (Boundary smi current i) ≡ 11
    → let e = stepped m x (Boundary smi current i) in
    IpRecorded m current i e (stepped e.stepped.machine e.memory (Opcode 0xaa modrm a next))

-- the second run is the first with another management memory
abbrev pub second : Run → List ℕ → Run
second a l = record { machine = a.machine; memory = memories a.memory.main l; events = a.events }

-- before entry each has its own, and at entry its own with the same 48 bytes in it
pub record Determined (m : Machine) (g h : List ℕ) (a b : Run) (c : Agree m g h a b) : Type 0 where
  pub before : (last_number (answers_of a) ≡ 11 → ⊥) → (a.memory.management ≡ g) × (b ≡ second a h)
  pub entered : (e : last_number (answers_of a) ≡ 11)
      → let at = header_place (settings_of m) in
      let bytes = header_bytes (c.entered e).saved in
      (a.memory.management ≡ sets g at bytes) × (b ≡ second a (sets h at bytes))
  -- both machines are of the edition of the start, with its locked settings, and after entry with what entry leaves of them
  pub editions : (edition_of a.machine ≡ edition_of m) × (edition_of b.machine ≡ edition_of m)
  pub kept : (last_number (answers_of a) ≡ 11 → ⊥)
      → Fixed (edition_of m) (settings_of a.machine) (settings_of m) × Fixed (edition_of m) (settings_of b.machine) (settings_of m)
  pub moved : last_number (answers_of a) ≡ 11
      → let s = entered_settings (settings_of m) in
      Fixed (edition_of m) (settings_of a.machine) s × Fixed (edition_of m) (settings_of b.machine) s

abbrev pub AgreementDetermines : Type 0
AgreementDetermines = (m : Machine) (g h : List ℕ) (a b : Run) (c : Agree m g h a b) → Determined m g h a b c
