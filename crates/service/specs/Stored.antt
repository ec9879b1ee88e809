-- What changes a byte of either memory. So that the bytes of the header are kept, and those of a saved register unchanged, can be read off the
-- steps and their answers too.
use Rattle.std.specs.Prelude.{ℕ, ◌+◌, ◌≤◌, ◌<◌, ◌≡◌, List, ◌++◌, length, get_or, take}
use Rattle.fields.specs.Fields.{bytes_of}
use Rattle.memory.specs.Memory.{Memories, Cell, byte_in}
use Rattle.steps.specs.declared.Step.{Step}
use Rattle.steps.specs.declared.Step.TheVariants.{Write, Opcode, Wake}
use Rattle.steps.specs.Steps.{kind_of}
use Rattle.settings.specs.Settings.{smhr}
use Rattle.header.specs.Header.{header_length}
use Rattle.segments.specs.declared.SegmentName.{SegmentName}
use Rattle.opcodes.specs.declared.Operation.TheVariants.{Save, Restore, Rdshr, Wrshr}
use Rattle.opcodes.specs.Decode.{operation_of, operand_size}
use Rattle.machine.specs.declared.Machine.{Machine}
use Rattle.machine.specs.Machines.{settings_of, edition_of, segment_in}
use Rattle.machine.specs.Steps.{stepped}
use Rattle.runs.specs.Runs.{Run, run}
use Rattle.isolation.specs.Service.{answer_to, Entering}
use Rattle.levels.specs.Levels.{place_of, header_of}
use Rattle.service.specs.NoMark.{serviced, serviced_to, answer_at, HeaderKept, Completes, operand_cell, SavedAndRestored}

-- a cell is one of the n of an operand at a, or one of the 48 of the header: which of them
pub record Among (k : Machine) (a n : ℕ) (c : Cell) : Type 0 where
  pub byte : ℕ
  pub below : byte < n
  pub cell : operand_cell k a byte ≡ c

pub record InHeader (k : Machine) (c : Cell) : Type 0 where
  pub byte : ℕ
  pub below : byte < header_length
  pub cell : Cell.InManagement (place_of k + byte) ≡ c

-- a step that stores to a cell: a data write, a save of a segment register or RDSHR, each done and with the cell among its bytes, and an entry
-- with the cell in its header
pub data Stores (k : Machine) (y : Memories) (c : Cell) : Step → Type 0 where
  by_write : {width a v : ℕ} → Among k a width c → answer_to k y (Write width a v) ≡ 0 → Stores k y c (Write width a v)
  by_save : {s : Step} {n : SegmentName} {a : ℕ} → Among k a (operand_size (Save n)) c → Completes k y (Save n) a s → Stores k y c s
  by_rdshr : {s : Step} {a : ℕ} → Among k a (operand_size Rdshr) c → Completes k y Rdshr a s → Stores k y c s
  by_entry : {s : Step} → InHeader k c → (by : Entering k s) → answer_to k y s ≡ 11 → Stores k y c s

-- the byte that each of them leaves there
abbrev pub left : {k : Machine} {y : Memories} {c : Cell} {s : Step} → Stores k y c s → ℕ
left (Stores.by_write {width} {a} {v} t h) = get_or (bytes_of width v) t.byte 0
left {k} (Stores.by_save {s} {n} {a} t h) = get_or (bytes_of 8 (segment_in k n).descriptor ++ bytes_of 2 (segment_in k n).selector) t.byte 0
left {k} (Stores.by_rdshr {s} {a} t h) = get_or (bytes_of 4 (smhr (settings_of k))) t.byte 0
left {k} (Stores.by_entry {s} t by h) = get_or (header_of k by) t.byte 0

abbrev pub LeftThere : Type 0
LeftThere = (k : Machine) (y : Memories) (c : Cell) (s : Step) (h : Stores k y c s) → byte_in (stepped k y s).memory c ≡ left h

-- What stores, by the kind of the record: a data write that is done, among its bytes; an opcode that is done and neither restores nor loads SMHR,
-- among those of its operand; an entry, in its header; and nothing else.
pub record Listed (k : Machine) (y : Memories) (c : Cell) : Type 0 where
  pub write : (width a v : ℕ) → Stores k y c (Write width a v) → (answer_to k y (Write width a v) ≡ 0) × Among k a width c
  pub opcode : (op modrm a next : ℕ)
      → let s = Opcode op modrm a next in
      let o = operation_of (edition_of k) op modrm in
      Stores k y c s → (answer_to k y s ≡ 11 → ⊥)
      → (answer_to k y s ≡ 0) × Among k a (operand_size o) c × ((n : SegmentName) → o ≡ Restore n → ⊥) × (o ≡ Wrshr → ⊥)
  pub entry : (s : Step) → Stores k y c s → answer_to k y s ≡ 11 → InHeader k c
  pub other : (s : Step) → (kind_of s ≡ 4 → ⊥) → (kind_of s ≡ 7 → ⊥) → Stores k y c s → answer_to k y s ≡ 11

abbrev pub StoresAsListed : Type 0
StoresAsListed = (k : Machine) (y : Memories) (c : Cell) → Listed k y c

-- Nothing else changes a byte, a reset and RSM no more than any other step: over a stretch of a run without such a step it stays.
abbrev pub OnlyStored : Type 0
OnlyStored =
    (k : Machine) (y : Memories) (ss : List Step) (c : Cell) (from to : ℕ) → from ≤ to → to ≤ length ss
    → let at : ℕ → Run = λ l. run k y (take l ss) in
    ((l : ℕ) → from ≤ l → l < to → Stores (at l).machine (at l).memory c (get_or ss l Wake) → ⊥)
    → byte_in (at to).memory c ≡ byte_in (at from).memory c

-- So the header is kept, at its place, where no step since entry has stored to any of its 48 bytes, as another entry over it would have. (Where a
-- handler has put all bytes back that it wrote over, the header is kept too.)
abbrev pub KeptUnlessStored : Type 0
KeptUnlessStored =
    (m : Machine) (x : Memories) (s : Step) (ss : List Step)
    → let r = serviced m x s ss in
    let at = serviced_to m x s ss in
    place_of r.machine ≡ place_of m
    → ((t l : ℕ) → t < header_length → l < length ss
    → Stores (at l).machine (at l).memory (Cell.InManagement (place_of m + t)) (get_or ss l Wake) → ⊥)
    → HeaderKept m x s r

-- So it is kept by steps that are neither data writes nor opcodes, and don't enter.
abbrev pub KeptWhereQuiet : Type 0
KeptWhereQuiet =
    (m : Machine) (x : Memories) (s : Step) (ss : List Step)
    → let r = serviced m x s ss in
    place_of r.machine ≡ place_of m
    → ((l : ℕ) → l < length ss → (kind_of (get_or ss l Wake) ≡ 4 → ⊥) × (kind_of (get_or ss l Wake) ≡ 7 → ⊥) × (answer_at m x s ss l ≡ 11 → ⊥))
    → HeaderKept m x s r

-- And a register is restored from unchanged bytes where no step between the save and the restore has stored to one of the ten.
abbrev pub UnchangedUnlessStored : Type 0
UnchangedUnlessStored =
    (m : Machine) (x : Memories) (s : Step) (ss : List Step) (n : SegmentName) (i j a b : ℕ)
    → let at = serviced_to m x s ss in
    i < j
    → Completes (at i).machine (at i).memory (Save n) a (get_or ss i Wake)
    → Completes (at j).machine (at j).memory (Restore n) b (get_or ss j Wake)
    → ((t : ℕ) → t < 10 → operand_cell (at j).machine b t ≡ operand_cell (at i).machine a t)
    → ((t l : ℕ) → t < 10 → i < l → l < j
    → Stores (at l).machine (at l).memory (operand_cell (at i).machine a t) (get_or ss l Wake) → ⊥)
    → SavedAndRestored at ss n i j a b
