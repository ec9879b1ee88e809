-- An example of what each theorem of this crate asks for, so that none of them speaks of nothing.
use Rattle.std.specs.Prelude.{ℕ, ◌+◌, ◌≡◌, Bool, true, false, List, [], ◌∷◌, length, replicate, Option}
use Rattle.memory.specs.Memory.{Memories, memories}
use Rattle.steps.specs.declared.Step.{Step}
use Rattle.steps.specs.declared.Step.TheVariants.{Reset, Read, PortRead, Opcode, Boundary, MalformedBoundary, Halt}
use Rattle.steps.specs.declared.Transfer.{Transfer}
use Rattle.steps.specs.declared.Interruption.{Interruption}
use Rattle.steps.specs.declared.Interruption.TheVariants.{None, Input, Output, StringInput, StringOutput, RepInput, RepOutput}
use Rattle.steps.specs.declared.Answer.TheVariants.{Nothing, Ignored, Latched}
use Rattle.steps.specs.Answers.{refusal}
use Rattle.steps.specs.Widths.{StepFits}
use Rattle.refusals.specs.Refusals.{first_refusal}
use Rattle.settings.specs.declared.Edition.{Edition}
use Rattle.settings.specs.declared.Edition.TheVariants.{Cx486, Mii}
use Rattle.region.specs.Region.{size_of}
use Rattle.settings.specs.Settings.{smi_lock, mapen, region_in, smhr, header_place, enabled, with_byte, with_smhr, with_edition}
use Rattle.settings.specs.declared.Settings.{Settings}
use Rattle.config.specs.Ports.{internal}
use Rattle.nesting.specs.Nesting.{smm_mode}
use Rattle.opcodes.specs.Decode.{smint_opcode}
use Rattle.machine.specs.declared.Machine.{Machine}
use Rattle.segments.specs.Segments.{reset_segments}
use Rattle.machine.specs.Machines.{machine, settings_of, reset_registers, with_halted, with_latched}
use Rattle.machine.specs.Outcomes.{Outcome, gives, ends}
use Rattle.machine.specs.Steps.{stepped}
use Rattle.isolation.specs.Widths.{MachineFits}
use Rattle.runs.specs.Runs.{run, answers_of}
use Rattle.isolation.specs.Refusals.{called_for}
use Rattle.isolation.specs.Service.{answer_to, Entering, Resuming, Pointers}
use Rattle.isolation.specs.Isolation.{Start, NoReset, UpToEntry, last_number}

-- Settings of an edition: SMAR 000683h, which is 16 KiB at 68000h, and SMHR 6A001h in its midst; CCR1 and CCR3 as given.
abbrev pub sample_settings : Edition → ℕ → ℕ → Settings
sample_settings e ccr1 ccr3 = record {
  edition = e;
  ccr1 = ccr1;
  ccr3 = ccr3;
  high = 0x00;
  middle = 0x06;
  low = 0x83;
  ccr6 = 0x41;
  smhr0 = 0x01;
  smhr1 = 0xa0;
  smhr2 = 0x06;
  smhr3 = 0x00;
}

-- a machine with them and with the registers of a reset
abbrev pub sample : Edition → ℕ → ℕ → Machine
sample e ccr1 ccr3 =
    machine reset_registers reset_segments false false false (record { settings = sample_settings e ccr1 ccr3; index = 0; armed = false })

-- USE_SMI and the lock; with SMAC besides
abbrev pub locked : Edition → Machine
locked e = sample e 0x02 0x01

abbrev pub under_smac : Edition → Machine
under_smac e = sample e 0x06 0x01

-- no main memory, and management memory of one byte throughout
abbrev pub filled : ℕ → Memories
filled b = memories [] (replicate 65536 b)

-- demand 3: two steps, of which the second enters, over two management memories that differ
abbrev pub steps_to_entry : List Step
steps_to_entry = Halt ∷ Boundary 1 0x1000 None ∷ []

pub record IsolationExample (e : Edition) : Type 0 where
  pub start : Start (locked e)
  pub none : NoReset steps_to_entry
  pub equal : length (filled 0).management ≡ length (filled 1).management
  pub first : UpToEntry (answers_of (run (locked e) (filled 0) steps_to_entry))
  pub second : UpToEntry (answers_of (run (locked e) (filled 1) steps_to_entry))
  pub entered : last_number (answers_of (run (locked e) (filled 0) steps_to_entry)) ≡ 11

-- in either edition
abbrev pub IsolationExamples : Type 0
IsolationExamples = (e : Edition) → IsolationExample e

-- demand 2: entries at boundaries, and one by SMINT, of numbers of their widths, in either edition; and RSM right after each
abbrev pub rsm : Step
rsm = Opcode 0xaa 0 0 0

pub record ResumptionExample (m : Machine) (x : Memories) (s : Step) : Type 0 where
  pub allowed : first_refusal m.halted x s ≡ Option.None
  pub by : Resuming m s
  pub resumed : answer_to m x s ≡ 12

pub record EntryExample (m : Machine) (s : Step) : Type 0 where
  pub machine : MachineFits m
  pub step : StepFits s
  pub allowed : first_refusal m.halted (filled 0) s ≡ Option.None
  pub by : Entering m s
  pub entered : answer_to m (filled 0) s ≡ 11
  pub back : ResumptionExample (stepped m (filled 0) s).stepped.machine (stepped m (filled 0) s).memory rsm

-- 02, request 3: an entry from EIP FFF0h at a boundary with current address 1000h. Current IP and next IP are 1000h twice for the two REP forms,
-- 1000h and FFF0h for the other five interruptions, and FFF0h twice for a halted machine.
pub record BoundaryExample (m : Machine) (i : Interruption) (current next : ℕ) : Type 0 where
  pub entry : EntryExample m (Boundary 1 0x1000 i)
  pub pointers : let e = stepped m (filled 0) (Boundary 1 0x1000 i) in
      Pointers m e (stepped e.stepped.machine e.memory rsm) current next

abbrev pub byte_out : Transfer
byte_out = record { port = 0x3f8; size = 1; value = 0x41 }

abbrev pub BoundaryExamples : Type 0
BoundaryExamples =
    (e : Edition)
    → BoundaryExample (locked e) (RepInput 0x5000) 0x1000 0x1000
    × BoundaryExample (locked e) (RepOutput byte_out 0x5000) 0x1000 0x1000
    × BoundaryExample (locked e) None 0x1000 0xfff0
    × BoundaryExample (locked e) Input 0x1000 0xfff0
    × BoundaryExample (locked e) (Output byte_out) 0x1000 0xfff0
    × BoundaryExample (locked e) (StringInput 0x5000) 0x1000 0xfff0
    × BoundaryExample (locked e) (StringOutput byte_out 0x5000) 0x1000 0xfff0
    × BoundaryExample (with_halted (locked e) true) None 0xfff0 0xfff0

-- Boundaries that don't enter, where USE_SMI is 0: inside the mode an asserted SMI is latched, outside it is ignored, and one that isn't
-- asserted does nothing.
abbrev pub disabled : Edition → Bool → Machine
disabled e inside = machine reset_registers reset_segments false inside false (sample e 0x00 0x01).config

abbrev pub PassingExamples : Type 0
PassingExamples =
    (e : Edition)
    → let after : Bool → ℕ → Outcome = λ inside smi. stepped (disabled e inside) (filled 0) (Boundary smi 0x1000 None) in
    (after true 1 ≡ ends (gives (with_latched (disabled e true) true) Latched) (filled 0))
    × (after false 1 ≡ ends (gives (disabled e false) Ignored) (filled 0))
    × (after true 0 ≡ ends (gives (disabled e true) Nothing) (filled 0))
    × (after false 0 ≡ ends (gives (disabled e false) Nothing) (filled 0))

abbrev pub SmintExamples : Type 0
SmintExamples = (e : Edition) → EntryExample (under_smac e) (Opcode (smint_opcode e) 0 0 0x1002)

-- demand 1: in either edition a step that no refusal is called for, one for each of the five, and one that is refused
abbrev pub RefusalExamples : Type 0
RefusalExamples =
    (e : Edition)
    → (called_for (locked e) (filled 0) Halt ≡ 0)
    × (called_for (locked e) (memories [] []) Reset ≡ 1)
    × (called_for (locked e) (filled 0) MalformedBoundary ≡ 2)
    × (called_for (machine reset_registers reset_segments true false false (locked e).config) (filled 0) (PortRead 0x22) ≡ 3)
    × (called_for (locked e) (filled 0) (Opcode 0xaa 0 0 0) ≡ 4)
    × (called_for (locked e) (filled 0) (Read 4 0) ≡ 5)
    × (refusal (stepped (locked e) (filled 0) MalformedBoundary).stepped.answer ≡ true)

-- 02, request 1: outside the mode under the lock and SMAC, without main memory, RDSHR is refused for its operand, WRSHR is invalid before that,
-- and SMINT is 38h and not 7Eh; the header begins 48 below SMHR, where the 486 edition has it 48 below the region's end; B0h is internal with
-- MAPEN 0001b, with no other value, and never in the 486 edition
abbrev pub LaterExamples : Type 0
LaterExamples =
    (smi_lock (settings_of (under_smac Mii)) ≡ true)
    × (called_for (under_smac Mii) (filled 0) (Opcode 0x36 0 0 0) ≡ 5)
    × (called_for (under_smac Mii) (filled 0) (Opcode 0x37 0 0 0) ≡ 4)
    × (called_for (under_smac Mii) (filled 0) (Opcode 0x38 0 0 0) ≡ 0)
    × (called_for (under_smac Mii) (filled 0) (Opcode 0x7e 0 0 0) ≡ 4)
    × (header_place (settings_of (locked Mii)) ≡ 0x1fd1)
    × (header_place (settings_of (locked Cx486)) ≡ 0x3fd0)
    × (internal (sample_settings Mii 0x02 0x11) 0xb0 ≡ true)
    × (internal (sample_settings Mii 0x02 0x31) 0xb0 ≡ false)
    × (internal (sample_settings Cx486 0x02 0x11) 0xb0 ≡ false)

-- settings with SMHR at the region's end, MAPEN off and SMM_MODE 0, where SMIs are enabled in either edition
abbrev pub alike : Settings
alike = with_byte (with_smhr (sample_settings Mii 0x02 0x01) 0x6c000) 0xea 0x40

pub record AlikeExample : Type 0 where
  pub off : mapen alike ≡ false
  pub mode : smm_mode alike ≡ false
  pub end : smhr alike ≡ (region_in alike).base + size_of (region_in alike).code
  pub on : (enabled alike ≡ true) × (enabled (with_edition alike Cx486) ≡ true)
