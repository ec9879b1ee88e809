-- 02, request 14, in its own words: the service leaves no mark. A service is an entry, then steps inside the mode, each on what the one before
-- left, and then the matching RSM. After it the registers that entry saved are those from before entry, and so is each segment register that was
-- saved and put back. Both editions, entry at a boundary and by SMINT, and services inside services, are meant. specs/Back has the same with less asked.
use Rattle.std.specs.Prelude.{ℕ, ◌+◌, ◌≤◌, ◌<◌, ◌≡◌, true, false, List, length, get_or, take}
use Rattle.memory.specs.Memory.{Memories, Cell, cell_of, byte_in}
use Rattle.steps.specs.declared.Step.{Step}
use Rattle.steps.specs.declared.Step.TheVariants.{Reset, Opcode, Wake}
use Rattle.steps.specs.Widths.{StepFits}
use Rattle.header.specs.Header.{header_length, word_in}
use Rattle.header.specs.Header.Word.{NextIp}
use Rattle.segments.specs.declared.SegmentName.{SegmentName}
use Rattle.opcodes.specs.declared.Operation.{Operation}
use Rattle.opcodes.specs.declared.Operation.TheVariants.{Save, Restore}
use Rattle.opcodes.specs.Decode.{operation_of, operand_size}
use Rattle.machine.specs.declared.Machine.{Machine}
use Rattle.machine.specs.Machines.{edition_of, segment_in}
use Rattle.machine.specs.Outcomes.{Outcome}
use Rattle.machine.specs.Steps.{window, stepped}
use Rattle.runs.specs.Runs.{Run, run}
use Rattle.isolation.specs.Widths.{MachineFits}
use Rattle.isolation.specs.Service.{answer_to}
use Rattle.levels.specs.Levels.{place_of}

-- what is left after the step s, which enters on m and x, and the steps ss after it
abbrev pub serviced : Machine → Memories → Step → List Step → Run
serviced m x s ss = let e = stepped m x s in run e.stepped.machine e.memory ss

-- what the first k of them have left, on which step number k is taken (numbers are from 0)
abbrev pub serviced_to : Machine → Memories → Step → List Step → ℕ → Run
serviced_to m x s ss k = serviced m x s (take k ss)

-- the answer to a step on what a run has left, and to step number k
abbrev pub answer_after : Run → Step → ℕ
answer_after r t = answer_to r.machine r.memory t

abbrev pub answer_at : Machine → Memories → Step → List Step → ℕ → ℕ
answer_at m x s ss k = answer_after (serviced_to m x s ss k) (get_or ss k Wake)

-- ---- the service

-- "The matching RSM is the one that reads this entry's header": it is answered "resumed", it reads at the place in management memory that this
-- entry wrote to, and no entry among the steps ss before it was at that place, so that the header there is this entry's, or what the steps have made
-- of it.
pub record Matching (m : Machine) (x : Memories) (s : Step) (ss : List Step) (rsm : Step) : Type 0 where
  pub resumed : answer_after (serviced m x s ss) rsm ≡ 12
  pub place : place_of (serviced m x s ss).machine ≡ place_of m
  pub own : (k : ℕ) → k < length ss → answer_at m x s ss k ≡ 11 → place_of (serviced_to m x s ss k).machine ≡ place_of m → ⊥

-- "From any entry, take any steps inside the mode, each on what the one before left, none a reset, until the matching RSM": each begins inside,
-- and none of them is the matching RSM already.
pub record Service (m : Machine) (x : Memories) (s : Step) (ss : List Step) (rsm : Step) : Type 0 where
  pub entered : answer_to m x s ≡ 11
  pub inside : (k : ℕ) → k < length ss → (serviced_to m x s ss k).machine.inside ≡ true
  pub no_reset : (k : ℕ) → k < length ss → get_or ss k Wake ≡ Reset → ⊥
  pub until : (k : ℕ) → k < length ss → Matching m x s (take k ss) (get_or ss k Wake) → ⊥
  pub matching : Matching m x s ss rsm

-- ---- the registers that entry saves

-- "The header's place in management memory and the 48 bytes there are then what entry left", on what r has
pub record HeaderKept (m : Machine) (x : Memories) (s : Step) (r : Run) : Type 0 where
  pub place : place_of r.machine ≡ place_of m
  pub bytes : (i : ℕ) → i < header_length
      → get_or r.memory.management (place_of m + i) 0 ≡ get_or (stepped m x s).memory.management (place_of m + i) 0

-- what is then as before entry, EIP the recorded next IP, and halted off: m is before entry, e is after entry, and o is after RSM
pub record NoMark (m : Machine) (e o : Outcome) : Type 0 where
  pub dr7 : o.stepped.machine.registers.dr7 ≡ m.registers.dr7
  pub eflags : o.stepped.machine.registers.eflags ≡ m.registers.eflags
  pub cr0 : o.stepped.machine.registers.cr0 ≡ m.registers.cr0
  pub cs : o.stepped.machine.registers.cs ≡ m.registers.cs
  pub level : o.stepped.machine.registers.level ≡ m.registers.level
  pub writable : o.stepped.machine.registers.writable ≡ m.registers.writable
  pub eip : o.stepped.machine.registers.eip ≡ word_in e.memory.management (place_of m) NextIp
  pub halted : o.stepped.machine.halted ≡ false

-- ---- the segment registers

-- an opcode step that asks for the operation o with its operand at a, and that is done, answer 0
pub data Completes (k : Machine) (y : Memories) (o : Operation) (a : ℕ) : Step → Type 0 where
  completes : {op modrm next : ℕ} → operation_of (edition_of k) op modrm ≡ o → answer_to k y (Opcode op modrm a next) ≡ 0
      → Completes k y o a (Opcode op modrm a next)

-- the cell of byte number t of an operand at a, on a machine: which memory, and which byte of it, whatever SMAR, SMAC and MMAC are by then
abbrev pub operand_cell : Machine → ℕ → ℕ → Cell
operand_cell k a t = cell_of (window k) (a + t)

-- Step number i saves the segment register n, at a, and step number j restores it, at b. `at` is what so many of the steps ss have left. (Nothing
-- restores CS, so that n is one of the seven others.)
pub record SavedAndRestored (at : ℕ → Run) (ss : List Step) (n : SegmentName) (i j a b : ℕ) : Type 0 where
  pub saves : Completes (at i).machine (at i).memory (Save n) a (get_or ss i Wake)
  pub restores : Completes (at j).machine (at j).memory (Restore n) b (get_or ss j Wake)
  -- from the same bytes: the cells of the two operands are the same, in order
  pub same : (t : ℕ) → t < operand_size (Save n) → operand_cell (at j).machine b t ≡ operand_cell (at i).machine a t
  -- unchanged: at the restore they hold what the save has left there
  pub unchanged : (t : ℕ) → t < operand_size (Save n)
      → let c = operand_cell (at i).machine a t in
      byte_in (at j).memory c ≡ byte_in (at (i + 1)).memory c

-- Nothing changes the register n by the steps numbered from `from` on and below `to`: none is a reset, and none a restore of n that is done.
-- (`OnlyRestored` of specs/Back: nothing else does, so that this can be read off the steps and their answers.)
abbrev pub Untouched : (ℕ → Run) → List Step → SegmentName → ℕ → ℕ → Type 0
Untouched at ss n from to =
    (k : ℕ) → from ≤ k → k < to
    → (get_or ss k Wake ≡ Reset → ⊥) × ((c : ℕ) → Completes (at k).machine (at k).memory (Restore n) c (get_or ss k Wake) → ⊥)

-- "Saved before anything since entry had changed them, and later restored from the same unchanged bytes as their last change"
pub record PutBack (at : ℕ → Run) (ss : List Step) (n : SegmentName) (i j a b : ℕ) : Type 0 where
  pub bytes : SavedAndRestored at ss n i j a b
  pub early : Untouched at ss n 0 i
  pub later : i < j
  pub last : Untouched at ss n (j + 1) (length ss)

-- ---- the claim

-- of any entry, where the numbers of the machine and of the step that enters have the widths of their types
abbrev pub LeavesNoMark : Type 0
LeavesNoMark =
    (m : Machine) (x : Memories) (s : Step) (ss : List Step) (rsm : Step) → MachineFits m → StepFits s → Service m x s ss rsm
    → let r = serviced m x s ss in
    let o = stepped r.machine r.memory rsm in
    (HeaderKept m x s r → NoMark m (stepped m x s) o)
    × ((n : SegmentName) (i j a b : ℕ) → PutBack (serviced_to m x s ss) ss n i j a b
    → segment_in o.stepped.machine n ≡ segment_in m n)
