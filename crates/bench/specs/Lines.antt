-- 01, "Bench sheet" and "Region": the P lines as one table, with the three rows under "Region" before them, and the fact about the rules that
-- each row states.
use Rattle.std.specs.Prelude.{ℕ, ◌+◌, ◌-◌, ◌/◌, ◌%◌, ◌<◌, ◌≤◌, ◌≡◌, Bool, true, false, List, [], ◌∷◌, length, get_or, Option}
use Rattle.region.specs.declared.Region.{Region}
use Rattle.region.specs.Region.{region_of, size_of, usable}
use Rattle.fields.specs.Fields.{field_at, number}
use Rattle.memory.specs.Memory.{Memories}
use Rattle.steps.specs.declared.Interruption.{Interruption}
use Rattle.steps.specs.declared.Interruption.TheVariants.{None, Output}
use Rattle.steps.specs.declared.Step.TheVariants.{PortWrite, Boundary}
use Rattle.refusals.specs.Refusals.{wrong_sizes, first_refusal}
use Rattle.settings.specs.declared.Edition.TheVariants.{Cx486}
use Rattle.settings.specs.Settings.{use_smi, smac, smi_lock, region_in}
use Rattle.header.specs.declared.Level.{Level}
use Rattle.header.specs.declared.Level.TheVariants.{Zero, Three}
use Rattle.header.specs.declared.Registers.{Registers}
use Rattle.header.specs.Header.{header_bytes}
use Rattle.machine.specs.declared.Machine.{Machine}
use Rattle.machine.specs.Outcomes.{Outcome}
use Rattle.machine.specs.Machines.{settings_of, edition_of}
use Rattle.machine.specs.Service.{saved_at_boundary}
use Rattle.machine.specs.Steps.{stepped}
use Rattle.isolation.specs.Service.{answer_to, OnlyHeader}

abbrev pub region : ℕ → ℕ → Region
region base code = record { base = base; code = code }

-- a row: what is given, and then what the sheet says of it
pub data Line : Type 0 where
  -- the bytes CDh, CEh and CFh; the base, the code and the size of the region they name
  Smar : (high middle low base code size : ℕ) → Line
  -- base and code; is the region usable
  IsUsable : (base code : ℕ) (answer : Bool) → Line
  -- of one step, a write to port 23h: CCR1 before it, the byte written, and CCR1 after
  LockedCcr1 : (before value after : ℕ) → Line
  -- The rest are of one step, a boundary with SMI asserted, which enters: of every such step of every 486 machine with what is given.
  -- base and code; the first and the last byte of the header in management memory
  HeaderAt : (base code first last : ℕ) → Line
  -- base and code; the CS selector after it
  EntryCs : (base code selector : ℕ) → Line
  -- CR0 before it and after
  EntryCr0 : (before after : ℕ) → Line
  -- level and CS selector before it; the header's word at -18h
  LevelWord : (level : Level) (selector word : ℕ) → Line
  -- the registers of a machine that is not halted, the current address and the interruption; the header's 48 bytes upward
  Header : (registers : Registers) (current : ℕ) (i : Interruption) (bytes : List ℕ) → Line

-- Before a write to CCR1 by port 23h: any machine that is awake, outside the mode, locked and armed at C1h, and any memories of the right
-- sizes.
pub record Armed : Type 0 where
  pub machine : Machine
  pub memory : Memories
  pub sizes : wrong_sizes memory ≡ false
  pub awake : machine.halted ≡ false
  pub outside : machine.inside ≡ false
  pub locked : smi_lock (settings_of machine) ≡ true
  pub armed : machine.config.armed ≡ true
  pub index : machine.config.index ≡ 0xc1

pub record ArmedExample (ccr1 : ℕ) : Type 0 where
  pub before : Armed
  pub given : (settings_of before.machine).ccr1 ≡ ccr1

-- Before a boundary with SMI asserted: any machine of the 486 edition outside the mode with USE_SMI 1 and SMAC 0, halted or not, and any
-- memories of the right sizes, where the step is not malformed.
pub record Before (current : ℕ) (i : Interruption) : Type 0 where
  pub machine : Machine
  pub memory : Memories
  pub edition : edition_of machine ≡ Cx486
  pub allowed : first_refusal machine.halted memory (Boundary 1 current i) ≡ Option.None
  pub outside : machine.inside ≡ false
  pub on : use_smi (settings_of machine) ≡ true
  pub closed : smac (settings_of machine) ≡ false

-- The rows speak of a machine and its memories: there is such a record of them.
pub record OfArmed (m : Machine) (x : Memories) : Type 0 where
  pub before : Armed
  pub machine : before.machine ≡ m
  pub memory : before.memory ≡ x

pub record OfBefore (m : Machine) (x : Memories) (current : ℕ) (i : Interruption) : Type 0 where
  pub before : Before current i
  pub machine : before.machine ≡ m
  pub memory : before.memory ≡ x

-- What the two records ask for, by raw bits and numbers, and no more: any registers, segments and other settings, halted or not, with an SMI
-- latched or not.
abbrev pub ArmedAsked : Type 0
ArmedAsked =
    (m : Machine) (x : Memories) → length x.main ≤ 1048576 → length x.management ≡ 65536
    → m.halted ≡ false → m.inside ≡ false → (settings_of m).ccr3 % 2 ≡ 1 → m.config.armed ≡ true → m.config.index ≡ 193
    → OfArmed m x

abbrev pub BeforeAsked : Type 0
BeforeAsked =
    (m : Machine) (x : Memories) (current : ℕ) (i : Interruption)
    → edition_of m ≡ Cx486 → first_refusal m.halted x (Boundary 1 current i) ≡ Option.None → m.inside ≡ false
    → (settings_of m).ccr1 / 2 % 2 ≡ 1 → (settings_of m).ccr1 / 4 % 2 ≡ 0
    → OfBefore m x current i

module _ {current : ℕ} {i : Interruption} (b : Before current i) where
  abbrev pub region_before : Region
  region_before = region_in (settings_of b.machine)

  abbrev pub outcome : Outcome
  outcome = stepped b.machine b.memory (Boundary 1 current i)

  -- the answer is "entered"
  abbrev pub Enters : Type 0
  Enters = answer_to b.machine b.memory (Boundary 1 current i) ≡ 11

  -- the step stores 48 bytes from a place of management memory on, and no other byte there changes
  abbrev pub Stores : ℕ → List ℕ → Type 0
  Stores = OnlyHeader b.memory.management outcome.memory.management

  -- the place so many bytes below the region's end
  abbrev pub from_end : ℕ → ℕ
  from_end offset = size_of region_before.code - offset

-- a machine, memories and a boundary of which a row speaks
pub record Example (current : ℕ) (i : Interruption) (Given : Before current i → Type 0) : Type 0 where
  pub before : Before current i
  pub given : Given before

-- What a row states, whatever else a machine holds. A row about a step also says that there is a machine of which it speaks.
abbrev pub states : Line → Type 0
states (Smar high middle low base code size) = (region_of high middle low ≡ region base code) × (size_of code ≡ size)
states (IsUsable base code answer) = usable (region base code) ≡ answer
states (LockedCcr1 before value after) =
    ArmedExample before
    × ((b : Armed) → (settings_of b.machine).ccr1 ≡ before
    → let s = PortWrite 0x23 value in
    (answer_to b.machine b.memory s ≡ 0)
    × ((settings_of (stepped b.machine b.memory s).stepped.machine).ccr1 ≡ after))
states (HeaderAt base code first last) =
    Example 0x1000 None (λ b. region_before b ≡ region base code)
    × ((current : ℕ) (i : Interruption) (b : Before current i) → region_before b ≡ region base code
    → Enters b × Stores b first (header_bytes (saved_at_boundary b.machine current i)) × (first + 48 ≡ last + 1))
states (EntryCs base code selector) =
    Example 0x1000 None (λ b. region_before b ≡ region base code)
    × ((current : ℕ) (i : Interruption) (b : Before current i) → region_before b ≡ region base code
    → Enters b × ((outcome b).stepped.machine.registers.cs.selector ≡ selector))
states (EntryCr0 before after) =
    Example 0x1000 None (λ b. (usable (region_before b) ≡ true) × (b.machine.registers.cr0 ≡ before))
    × ((current : ℕ) (i : Interruption) (b : Before current i) → usable (region_before b) ≡ true
    → b.machine.registers.cr0 ≡ before → Enters b × ((outcome b).stepped.machine.registers.cr0 ≡ after))
states (LevelWord level selector word) =
    Example 0x1000 None (λ b. (usable (region_before b) ≡ true) × (b.machine.registers.level ≡ level) × (b.machine.registers.cs.selector ≡ selector))
    × ((current : ℕ) (i : Interruption) (b : Before current i) → usable (region_before b) ≡ true
    → b.machine.registers.level ≡ level → b.machine.registers.cs.selector ≡ selector
    → Enters b × (field_at (outcome b).memory.management (from_end b 0x18) 4 ≡ word))
states (Header registers current i bytes) =
    Example current i (λ b. (usable (region_before b) ≡ true) × (b.machine.registers ≡ registers) × (b.machine.halted ≡ false))
    × ((b : Before current i) → usable (region_before b) ≡ true → b.machine.registers ≡ registers → b.machine.halted ≡ false
    → Enters b × Stores b (from_end b 0x30) bytes)

-- the registers that P11 gives
abbrev pub registers_in_p11 : Registers
registers_in_p11 = record {
  eip = 0x1002;
  eflags = 0x202;
  cr0 = 0xe0000011;
  dr7 = 0x400;
  cs = record { selector = 0x0008; descriptor = number (0xff ∷ 0xff ∷ 0x00 ∷ 0x00 ∷ 0x00 ∷ 0x9b ∷ 0xcf ∷ 0x00 ∷ []) };
  level = Zero;
  writable = false;
}

unfoldable pub sheet : List Line
sheet =
    -- the three that 01 has under "Region"
    Smar 0x00 0x03 0x84 0x38000 4 0x8000
    ∷ Smar 0x00 0x03 0x05 0x30000 5 0x10000
    ∷ Smar 0x00 0x06 0x83 0x68000 3 0x4000
    -- P1
    ∷ HeaderAt 0x68000 3 0x3fd0 0x3fff
    ∷ EntryCs 0x68000 3 0x6800
    -- P2
    ∷ EntryCs 0x123000 1 0x2300
    -- P3
    ∷ IsUsable 0x39000 1 true
    -- P4
    ∷ IsUsable 0x39000 2 false
    -- P5
    ∷ IsUsable 0x30000 5 true
    -- P6
    ∷ IsUsable 0x30000 6 false
    -- P7
    ∷ EntryCr0 0xe0000011 0x60000010
    -- P8
    ∷ LevelWord Three 0x001b 0x0060001b
    -- P9
    ∷ LockedCcr1 0x06 0x00 0x06
    -- P10
    ∷ LockedCcr1 0x06 0xf1 0xf7
    -- P11
    ∷ Header registers_in_p11 0x1000 (Output (record { port = 0x64; size = 1; value = 0xfe }))
    (0x00 ∷ 0x00 ∷ 0x00 ∷ 0x00
    ∷ 0xfe ∷ 0x00 ∷ 0x00 ∷ 0x00
    ∷ 0x64 ∷ 0x00 ∷ 0x01 ∷ 0x00
    ∷ 0x02 ∷ 0x00 ∷ 0x00 ∷ 0x00
    ∷ 0xff ∷ 0xff ∷ 0x00 ∷ 0x00
    ∷ 0x00 ∷ 0x9b ∷ 0xcf ∷ 0x00
    ∷ 0x08 ∷ 0x00 ∷ 0x00 ∷ 0x00
    ∷ 0x02 ∷ 0x10 ∷ 0x00 ∷ 0x00
    ∷ 0x00 ∷ 0x10 ∷ 0x00 ∷ 0x00
    ∷ 0x11 ∷ 0x00 ∷ 0x00 ∷ 0xe0
    ∷ 0x02 ∷ 0x02 ∷ 0x00 ∷ 0x00
    ∷ 0x00 ∷ 0x04 ∷ 0x00 ∷ 0x00
    ∷ [])
    ∷ []

-- the row at a place below a table's length
abbrev pub row_at : List Line → ℕ → Line
row_at ls k = get_or ls k (IsUsable 0 0 false)

-- every row holds; with the count no row can go unnoticed
abbrev pub SheetHolds : Type 0
SheetHolds = (length sheet ≡ 15) × ((k : ℕ) → k < length sheet → states (row_at sheet k))
