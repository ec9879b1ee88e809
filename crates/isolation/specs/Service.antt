-- Demand 2: which steps enter, what entry writes and loads, what a boundary does that doesn't enter, which steps resume and what they load, and what RSM right after entry loads back.
-- "Entered" is answer 11, "resumed" 12. All of it is said of any machine: its edition decides where the header lies, whether it fits, and which
-- byte is SMINT (02, request 1), and with SMM_MODE whether service nests (02, request 7). At the end, where RSM goes after a REP form (02,
-- request 3).
use Rattle.std.specs.Prelude.{ℕ, ◌+◌, ◌≤◌, ◌<◌, ◌≡◌, Bool, true, false, cond, ◌||◌, List, eqb, length, get_or, None}
use Rattle.memory.specs.Memory.{Memories}
use Rattle.steps.specs.declared.Step.{Step}
use Rattle.steps.specs.declared.Step.TheVariants.{Opcode, Boundary}
use Rattle.steps.specs.declared.Interruption.{Interruption}
use Rattle.steps.specs.declared.Answer.TheVariants.{Nothing, Ignored, Latched}
use Rattle.steps.specs.Answers.{number_of}
use Rattle.steps.specs.Widths.{StepFits}
use Rattle.refusals.specs.Refusals.{first_refusal}
use Rattle.opcodes.specs.declared.Operation.TheVariants.{Smint, Rsm}
use Rattle.opcodes.specs.Decode.{operation_of}
use Rattle.settings.specs.Settings.{region_in, enabled, header_place}
use Rattle.nesting.specs.Nesting.{entered_settings, resumed_settings, nestable, stays_inside}
use Rattle.header.specs.declared.Saved.{Saved}
use Rattle.header.specs.declared.Level.TheVariants.{Zero}
use Rattle.header.specs.Header.{trap_of, header_length, header_bytes, word_in, resumed, nested_in, with_eip}
use Rattle.header.specs.Header.Word.{CurrentIp, NextIp}
use Rattle.header.specs.Entry.{entry_cr0, entry_cs}
use Rattle.machine.specs.declared.Machine.{Machine}
use Rattle.machine.specs.Outcomes.{Outcome, gives, ends}
use Rattle.machine.specs.Machines.{settings_of, edition_of, with_latched, with_settings}
use Rattle.machine.specs.Service.{saved_at_boundary, saved_by_smint}
use Rattle.machine.specs.Steps.{valid, stepped}
use Rattle.isolation.specs.Widths.{MachineFits}

-- the number of a step's answer
abbrev pub answer_to : Machine → Memories → Step → ℕ
answer_to m x s = number_of (stepped m x s).stepped.answer

-- a memory is as it was but for 48 bytes from a place on, which all lie in it
pub record OnlyHeader (g g' : List ℕ) (at : ℕ) (bytes : List ℕ) : Type 0 where
  pub long : length bytes ≡ header_length
  pub fits : at + header_length ≤ length g
  pub same : length g' ≡ length g
  pub below : (i : ℕ) → i < at → get_or g' i 0 ≡ get_or g i 0
  pub header : (i : ℕ) → i < header_length → get_or g' (at + i) 0 ≡ get_or bytes i 0
  pub above : (i : ℕ) → at + header_length ≤ i → get_or g' i 0 ≡ get_or g i 0

-- The two ways to enter, each with its condition: a boundary where SMIs are enabled and one is asserted or latched, inside the mode only
-- where a handler may be interrupted, and a valid SMINT.
pub data Entering (m : Machine) : Step → Type 0 where
  at_boundary : {smi current : ℕ} {i : Interruption}
      → enabled (settings_of m) ≡ true → (m.inside ≡ true → nestable (settings_of m) ≡ true) → (eqb smi 1 || m.latched) ≡ true
      → Entering m (Boundary smi current i)
  by_smint : {op modrm a next : ℕ}
      → operation_of (edition_of m) op modrm ≡ Smint → valid m Smint ≡ true
      → Entering m (Opcode op modrm a next)

-- what each records, and how it leaves the latch
abbrev pub recorded : (m : Machine) → {s : Step} → Entering m s → Saved
recorded m (Entering.at_boundary {smi} {current} {i} on may asked) = saved_at_boundary m current i
recorded m (Entering.by_smint {op} {modrm} {a} {next} d v) = saved_by_smint m next

abbrev pub latch_after : (m : Machine) → {s : Step} → Entering m s → Bool
latch_after m (Entering.at_boundary {smi} {current} {i} on may asked) = false
latch_after m (Entering.by_smint {op} {modrm} {a} {next} d v) = m.latched

-- Both enter, unless the step is refused.
abbrev pub EntersWhereDue : Type 0
EntersWhereDue =
    (m : Machine) (x : Memories) (s : Step) → first_refusal m.halted x s ≡ None → Entering m s → answer_to m x s ≡ 11

-- entry writes the 48 header bytes and loads its state, clears N where service nests, and nothing else moves: m and x are before the step s,
-- and o is after it
pub record Entry (m : Machine) (x : Memories) (s : Step) (o : Outcome) : Type 0 where
  pub by : Entering m s
  pub eip : o.stepped.machine.registers.eip ≡ 0
  pub eflags : o.stepped.machine.registers.eflags ≡ 2
  pub dr7 : o.stepped.machine.registers.dr7 ≡ 0x400
  pub cr0 : o.stepped.machine.registers.cr0 ≡ entry_cr0 m.registers.cr0
  pub cs : o.stepped.machine.registers.cs ≡ entry_cs (region_in (settings_of m)).base
  pub level : o.stepped.machine.registers.level ≡ Zero
  pub writable : o.stepped.machine.registers.writable ≡ true
  pub halted : o.stepped.machine.halted ≡ false
  pub inside : o.stepped.machine.inside ≡ true
  pub latched : o.stepped.machine.latched ≡ latch_after m by
  pub segments : o.stepped.machine.segments ≡ m.segments
  pub config : o.stepped.machine.config ≡ (with_settings m (entered_settings (settings_of m))).config
  pub main : o.memory.main ≡ x.main
  pub management : OnlyHeader x.management o.memory.management (header_place (settings_of m)) (header_bytes (recorded m by))

-- whatever answers 11 is such an entry, so nothing else enters
abbrev pub EntersAsStated : Type 0
EntersAsStated = (m : Machine) (x : Memories) (s : Step) → answer_to m x s ≡ 11 → Entry m x s (stepped m x s)

-- What a boundary does that isn't refused and doesn't enter: inside the mode an asserted SMI is latched, outside it is ignored, and nothing else
-- moves. m and x are before it, smi says whether an SMI is asserted, and o is after it.
pub record Passing (m : Machine) (x : Memories) (smi : ℕ) (o : Outcome) : Type 0 where
  pub latched : smi ≡ 1 → m.inside ≡ true → o ≡ ends (gives (with_latched m true) Latched) x
  pub ignored : smi ≡ 1 → m.inside ≡ false → o ≡ ends (gives m Ignored) x
  pub nothing : (smi ≡ 1 → ⊥) → o ≡ ends (gives m Nothing) x

abbrev pub PassesAsStated : Type 0
PassesAsStated =
    (m : Machine) (x : Memories) (smi current : ℕ) (i : Interruption)
    → let s = Boundary smi current i in
    first_refusal m.halted x s ≡ None → (answer_to m x s ≡ 11 → ⊥) → Passing m x smi (stepped m x s)

-- the one way to resume: a valid RSM
pub data Resuming (m : Machine) : Step → Type 0 where
  by_rsm : {op modrm a next : ℕ} → operation_of (edition_of m) op modrm ≡ Rsm → valid m Rsm ≡ true → Resuming m (Opcode op modrm a next)

-- It resumes, unless the step is refused.
abbrev pub ResumesWhereDue : Type 0
ResumesWhereDue =
    (m : Machine) (x : Memories) (s : Step) → first_refusal m.halted x s ≡ None → Resuming m s → answer_to m x s ≡ 12

-- It loads the registers from the header that management memory holds, and leaves the mode. Where service nests it sets N, and it stays inside
-- if the header says that entry came from there. m and x are before the step s, and o is after it.
pub record Resumption (m : Machine) (x : Memories) (s : Step) (o : Outcome) : Type 0 where
  pub by : Resuming m s
  pub registers : o.stepped.machine.registers ≡ resumed x.management (header_place (settings_of m))
  pub halted : o.stepped.machine.halted ≡ false
  pub inside : o.stepped.machine.inside ≡ stays_inside (settings_of m) (nested_in x.management (header_place (settings_of m)))
  pub latched : o.stepped.machine.latched ≡ m.latched
  pub segments : o.stepped.machine.segments ≡ m.segments
  pub config : o.stepped.machine.config ≡ (with_settings m (resumed_settings (settings_of m))).config
  pub memory : o.memory ≡ x

-- whatever answers 12 is such a resumption
abbrev pub ResumesAsStated : Type 0
ResumesAsStated = (m : Machine) (x : Memories) (s : Step) → answer_to m x s ≡ 12 → Resumption m x s (stepped m x s)

-- RSM right after entry: it loads the registers that were saved, with next IP for EIP, and is back where entry came from, inside or outside,
-- with N set where service nests. m is before entry, e is after it, and o is after RSM.
pub record Resume (m : Machine) (s : Step) (by : Entering m s) (e o : Outcome) : Type 0 where
  pub answer : number_of o.stepped.answer ≡ 12
  pub registers : o.stepped.machine.registers ≡ with_eip m.registers (recorded m by).next
  pub halted : o.stepped.machine.halted ≡ false
  pub inside : o.stepped.machine.inside ≡ m.inside
  pub latched : o.stepped.machine.latched ≡ e.stepped.machine.latched
  pub segments : o.stepped.machine.segments ≡ m.segments
  pub config : o.stepped.machine.config ≡ (with_settings m (resumed_settings (settings_of m))).config
  pub memory : o.memory ≡ e.memory

-- that holds where every number of the machine and of the step has the width of its type
abbrev pub ResumesAsEntered : Type 0
ResumesAsEntered =
    (m : Machine) (x : Memories) (s : Step) (modrm a next : ℕ) → MachineFits m → StepFits s → (entered : answer_to m x s ≡ 11)
    → let e = stepped m x s in
    (by : Entering m s) → Resume m s by e (stepped e.stepped.machine e.memory (Opcode 0xaa modrm a next))

-- 02, request 3: the two IP words that an entry at a boundary writes, and EIP after RSM. m is before entry, e is after it, and o is after RSM.
pub record Pointers (m : Machine) (e o : Outcome) (current next : ℕ) : Type 0 where
  pub current_ip : word_in e.memory.management (header_place (settings_of m)) CurrentIp ≡ current
  pub next_ip : word_in e.memory.management (header_place (settings_of m)) NextIp ≡ next
  pub eip : o.stepped.machine.registers.eip ≡ next

-- With a REP form both are the boundary's current address. With any other interruption, or none, next IP is EIP, and current IP is the
-- boundary's current address, or EIP on a halted machine. (A halted one that meets a REP form is refused.)
pub record PointersBy (m : Machine) (current : ℕ) (i : Interruption) (e o : Outcome) : Type 0 where
  pub rep : (trap_of i).rep ≡ true → Pointers m e o current current
  pub other : (trap_of i).rep ≡ false → Pointers m e o (cond m.halted m.registers.eip current) m.registers.eip

-- so it is at every boundary that enters, with RSM right after it, where every number has the width of its type
abbrev pub PointersAsStated : Type 0
PointersAsStated =
    (m : Machine) (x : Memories) (smi current : ℕ) (i : Interruption) (modrm a next : ℕ) → MachineFits m → StepFits (Boundary smi current i)
    → answer_to m x (Boundary smi current i) ≡ 11
    → let e = stepped m x (Boundary smi current i) in
    PointersBy m current i e (stepped e.stepped.machine e.memory (Opcode 0xaa modrm a next))
