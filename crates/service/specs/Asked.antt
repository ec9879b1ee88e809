-- How tight the statements are: the hypotheses ask for no more than 02 does, every entry has a service that meets them, no RSM matches two
-- entries, and the claim leaves nothing open.
use Rattle.std.specs.Prelude.{ℕ, ◌+◌, ◌≤◌, ◌<◌, ◌≡◌, true, false, ◌&&◌, List, [], length, get_or, take, drop}
use Rattle.memory.specs.Memory.{Memories, cell_of, byte_in}
use Rattle.steps.specs.declared.Step.{Step}
use Rattle.steps.specs.declared.Step.TheVariants.{Reset, Opcode, Wake}
use Rattle.steps.specs.Answers.{number_of}
use Rattle.steps.specs.Widths.{StepFits}
use Rattle.settings.specs.Settings.{header_place}
use Rattle.nesting.specs.Nesting.{enhanced}
use Rattle.header.specs.Header.{word_in, with_eip}
use Rattle.header.specs.Header.Word.{NextIp}
use Rattle.segments.specs.declared.SegmentName.{SegmentName}
use Rattle.segments.specs.Segments.{is_cs}
use Rattle.opcodes.specs.declared.Operation.TheVariants.{Save, Restore}
use Rattle.opcodes.specs.Decode.{operation_of}
use Rattle.machine.specs.declared.Machine.{Machine}
use Rattle.machine.specs.Machines.{settings_of, edition_of, segment_in}
use Rattle.machine.specs.Outcomes.{Outcome}
use Rattle.machine.specs.Steps.{window, stepped}
use Rattle.runs.specs.Runs.{Run, run}
use Rattle.isolation.specs.Widths.{MachineFits}
use Rattle.isolation.specs.Service.{answer_to, Entering, recorded}
use Rattle.service.specs.NoMark.{serviced, serviced_to, answer_after, answer_at, Matching, Service, HeaderKept, NoMark, Completes, SavedAndRestored, Untouched, PutBack}
use Rattle.service.specs.Back.{PutBackByValue}

-- ---- the service

-- all that `Matching` asks for, of the run after entry
abbrev pub MatchingAsked : Type 0
MatchingAsked =
    (m : Machine) (x : Memories) (s : Step) (ss : List Step) (rsm : Step)
    → let e = stepped m x s in
    let at : List Step → Run = λ l. run e.stepped.machine e.memory l in
    number_of (stepped (at ss).machine (at ss).memory rsm).stepped.answer ≡ 12
    → header_place (settings_of (at ss).machine) ≡ header_place (settings_of m)
    → ((k : ℕ) → k < length ss
    → let r = at (take k ss) in
    number_of (stepped r.machine r.memory (get_or ss k Wake)).stepped.answer ≡ 11
    → header_place (settings_of r.machine) ≡ header_place (settings_of m) → ⊥)
    → Matching m x s ss rsm

-- all that `Service` asks for besides
abbrev pub ServiceAsked : Type 0
ServiceAsked =
    (m : Machine) (x : Memories) (s : Step) (ss : List Step) (rsm : Step)
    → let e = stepped m x s in
    number_of e.stepped.answer ≡ 11
    → ((k : ℕ) → k < length ss → (run e.stepped.machine e.memory (take k ss)).machine.inside ≡ true)
    → ((k : ℕ) → k < length ss → get_or ss k Wake ≡ Reset → ⊥)
    → ((k : ℕ) → k < length ss → Matching m x s (take k ss) (get_or ss k Wake) → ⊥)
    → Matching m x s ss rsm → Service m x s ss rsm

-- RSM right after any entry, of either edition and by either way, is a service, and the header is kept
abbrev pub EveryEntry : Type 0
EveryEntry =
    (m : Machine) (x : Memories) (s : Step) (modrm a next : ℕ) → MachineFits m → StepFits s → answer_to m x s ≡ 11
    → Service m x s [] (Opcode 0xaa modrm a next) × HeaderKept m x s (serviced m x s [])

-- An RSM that matches an entry matches none of the entries since: not the one by step number k, whose service has the steps after that.
abbrev pub MatchesOne : Type 0
MatchesOne =
    (m : Machine) (x : Memories) (s : Step) (ss : List Step) (rsm : Step) (k : ℕ) → Matching m x s ss rsm → k < length ss → answer_at m x s ss k ≡ 11
    → let r = serviced_to m x s ss k in
    Matching r.machine r.memory (get_or ss k Wake) (drop (k + 1) ss) rsm → ⊥

-- ---- the registers

abbrev pub HeaderKeptAsked : Type 0
HeaderKeptAsked =
    (m : Machine) (x : Memories) (s : Step) (r : Run) → header_place (settings_of r.machine) ≡ header_place (settings_of m)
    → ((i : ℕ) → header_place (settings_of m) ≤ i → i < header_place (settings_of m) + 48
    → get_or r.memory.management i 0 ≡ get_or (stepped m x s).memory.management i 0)
    → HeaderKept m x s r

-- the claim settles all seven registers
abbrev pub NoMarkDetermines : Type 0
NoMarkDetermines =
    (m : Machine) (e o : Outcome) → NoMark m e o
    → (o.stepped.machine.registers ≡ with_eip m.registers (word_in e.memory.management (header_place (settings_of m)) NextIp))
    × (o.stepped.machine.halted ≡ false)

-- and the recorded next IP is the one of the entry: EIP, the boundary's current address for a REP form, or SMINT's next address
abbrev pub NextRecorded : Type 0
NextRecorded =
    (m : Machine) (x : Memories) (s : Step) → MachineFits m → StepFits s → answer_to m x s ≡ 11 → (by : Entering m s)
    → word_in (stepped m x s).memory.management (header_place (settings_of m)) NextIp ≡ (recorded m by).next

-- Each word by its four bytes, which begin so far above the header's place: what RSM loads from it is as before entry, whatever stands elsewhere.
abbrev pub WordsByBytes : Type 0
WordsByBytes =
    (m : Machine) (x : Memories) (s : Step) (ss : List Step) (rsm : Step) → MachineFits m → StepFits s → answer_to m x s ≡ 11 → (by : Entering m s)
    → let r = serviced m x s ss in
    let o = (stepped r.machine r.memory rsm).stepped.machine in
    let same : ℕ → Type 0
    = λ from. (i : ℕ) → i < 4
    → get_or r.memory.management (header_place (settings_of m) + (from + i)) 0
    ≡ get_or (stepped m x s).memory.management (header_place (settings_of m) + (from + i)) 0 in
    answer_after r rsm ≡ 12 → header_place (settings_of r.machine) ≡ header_place (settings_of m)
    → (same 0x2c → o.registers.dr7 ≡ m.registers.dr7)
    × (same 0x28 → o.registers.eflags ≡ m.registers.eflags)
    × (same 0x24 → o.registers.cr0 ≡ m.registers.cr0)
    × (same 0x1c → o.registers.eip ≡ (recorded m by).next)
    × (same 0x18 → (o.registers.cs.selector ≡ m.registers.cs.selector) × (o.registers.level ≡ m.registers.level))
    × (same 0x14 → same 0x10 → o.registers.cs.descriptor ≡ m.registers.cs.descriptor)
    × (same 0x0c → (o.registers.writable ≡ m.registers.writable) × (o.inside ≡ (enhanced (settings_of r.machine) && m.inside)))
    × (o.halted ≡ false)

-- All of them, and the mode.
abbrev pub RegistersSettled : Type 0
RegistersSettled =
    (m : Machine) (x : Memories) (s : Step) (ss : List Step) (rsm : Step) → MachineFits m → StepFits s → answer_to m x s ≡ 11 → (by : Entering m s)
    → let r = serviced m x s ss in
    let o = (stepped r.machine r.memory rsm).stepped.machine in
    answer_after r rsm ≡ 12 → HeaderKept m x s r
    → (o.registers ≡ with_eip m.registers (recorded m by).next)
    × (o.halted ≡ false)
    × (o.inside ≡ (enhanced (settings_of r.machine) && m.inside))

-- RSM right after any entry leaves no mark (demand 2 has it, too: `ResumesAsEntered` of isolation)
abbrev pub NoMarkAtOnce : Type 0
NoMarkAtOnce =
    (m : Machine) (x : Memories) (s : Step) (modrm a next : ℕ) → MachineFits m → StepFits s → answer_to m x s ≡ 11 → (by : Entering m s)
    → let e = stepped m x s in
    let o = (stepped e.stepped.machine e.memory (Opcode 0xaa modrm a next)).stepped.machine in
    (o.registers ≡ with_eip m.registers (recorded m by).next) × (o.halted ≡ false)

-- ---- the segment registers

abbrev pub CompletesAsked : Type 0
CompletesAsked =
    (k : Machine) (y : Memories) (op modrm a next : ℕ) → number_of (stepped k y (Opcode op modrm a next)).stepped.answer ≡ 0
    → Completes k y (operation_of (edition_of k) op modrm) a (Opcode op modrm a next)

abbrev pub UntouchedAsked : Type 0
UntouchedAsked =
    (at : ℕ → Run) (ss : List Step) (n : SegmentName) (from to : ℕ)
    → ((l : ℕ) → from ≤ l → l < to → get_or ss l Wake ≡ Reset → ⊥)
    → ((l c : ℕ) → from ≤ l → l < to → Completes (at l).machine (at l).memory (Restore n) c (get_or ss l Wake) → ⊥)
    → Untouched at ss n from to

-- all that `PutBack` asks for, of ten bytes
abbrev pub PutBackAsked : Type 0
PutBackAsked =
    (at : ℕ → Run) (ss : List Step) (n : SegmentName) (i j a b : ℕ)
    → Untouched at ss n 0 i
    → Completes (at i).machine (at i).memory (Save n) a (get_or ss i Wake)
    → i < j
    → Completes (at j).machine (at j).memory (Restore n) b (get_or ss j Wake)
    → ((t : ℕ) → t < 10
    → let c = cell_of (window (at i).machine) (a + t) in
    (cell_of (window (at j).machine) (b + t) ≡ c) × (byte_in (at j).memory c ≡ byte_in (at (i + 1)).memory c))
    → Untouched at ss n (j + 1) (length ss)
    → PutBack at ss n i j a b

-- all that `PutBackByValue` asks for
abbrev pub ByValueAsked : Type 0
ByValueAsked =
    (m : Machine) (at : ℕ → Run) (ss : List Step) (n : SegmentName) (i j a b : ℕ) → SavedAndRestored at ss n i j a b
    → segment_in (at i).machine n ≡ segment_in m n → segment_in (at (length ss)).machine n ≡ segment_in (at (j + 1)).machine n
    → PutBackByValue m at ss n i j a b

-- a register that is put back by its steps is so by its values, after any entry
abbrev pub ByValue : Type 0
ByValue =
    (m : Machine) (x : Memories) (s : Step) (ss : List Step) (n : SegmentName) (i j a b : ℕ) → answer_to m x s ≡ 11
    → let at = serviced_to m x s ss in
    PutBack at ss n i j a b → PutBackByValue m at ss n i j a b

-- Without a reset, and without a restore that is done, all seven segment registers stay over any run.
abbrev pub SegmentsStay : Type 0
SegmentsStay =
    (k : Machine) (y : Memories) (ss : List Step)
    → ((n : SegmentName) → Untouched (λ l. run k y (take l ss)) ss n 0 (length ss))
    → (run k y ss).machine.segments ≡ k.segments

-- If all seven are put back, by their values, all seven are as before entry: nothing is asked of the header, nor that s has entered.
abbrev pub AllSegments : Type 0
AllSegments =
    (m : Machine) (x : Memories) (s : Step) (ss : List Step) (rsm : Step) (i j a b : SegmentName → ℕ) → MachineFits m
    → let r = serviced m x s ss in
    answer_after r rsm ≡ 12
    → ((n : SegmentName) → is_cs n ≡ false → PutBackByValue m (serviced_to m x s ss) ss n (i n) (j n) (a n) (b n))
    → (stepped r.machine r.memory rsm).stepped.machine.segments ≡ m.segments

-- ---- the claim as a whole

-- A service that puts all seven segment registers back leaves them as they were, and if it keeps its header all others, with next IP for EIP.
abbrev pub AllBack : Type 0
AllBack =
    (m : Machine) (x : Memories) (s : Step) (ss : List Step) (rsm : Step) (i j a b : SegmentName → ℕ) → MachineFits m → StepFits s
    → Service m x s ss rsm
    → ((n : SegmentName) → is_cs n ≡ false → PutBack (serviced_to m x s ss) ss n (i n) (j n) (a n) (b n))
    → (by : Entering m s)
    → let r = serviced m x s ss in
    let o = (stepped r.machine r.memory rsm).stepped.machine in
    (o.segments ≡ m.segments)
    × (HeaderKept m x s r → (o.registers ≡ with_eip m.registers (recorded m by).next) × (o.halted ≡ false))
