-- What specs/NoMark says, with less asked, and the mode. It need not be asked that the steps begin inside, that none is a reset, or which entries
-- and RSMs are among them: what is said of the header and of the bytes is enough, whatever else has happened.
use Rattle.std.specs.Prelude.{ℕ, ◌+◌, ◌≤◌, ◌≡◌, true, false, List, length, take}
use Rattle.memory.specs.Memory.{Memories}
use Rattle.steps.specs.declared.Step.{Step}
use Rattle.steps.specs.Widths.{StepFits}
use Rattle.nesting.specs.Nesting.{enhanced}
use Rattle.header.specs.Header.{Word, word_in}
use Rattle.header.specs.Header.Word.{Dr7, Eflags, Cr0, NextIp, CsLevel, DescriptorHigh, DescriptorLow, Flags}
use Rattle.segments.specs.declared.SegmentName.{SegmentName}
use Rattle.segments.specs.Segments.{is_cs}
use Rattle.machine.specs.declared.Machine.{Machine}
use Rattle.machine.specs.Machines.{settings_of, segment_in}
use Rattle.machine.specs.Outcomes.{Outcome}
use Rattle.machine.specs.Steps.{stepped}
use Rattle.runs.specs.Runs.{Run, run}
use Rattle.isolation.specs.Widths.{MachineFits}
use Rattle.isolation.specs.Service.{answer_to}
use Rattle.levels.specs.Levels.{place_of}
use Rattle.service.specs.NoMark.{serviced, serviced_to, answer_after, HeaderKept, NoMark, SavedAndRestored, Untouched}

-- ---- the registers that entry saves

-- The mode after RSM: m is before entry, k is before RSM, and o is after it. After an entry from outside the machine is outside. After one from
-- inside it stays inside exactly if service nests when RSM runs: it did at entry, and doesn't where SMM_MODE is 0 by then.
pub record ModeBack (m k : Machine) (o : Outcome) : Type 0 where
  pub from_outside : m.inside ≡ false → o.stepped.machine.inside ≡ false
  pub from_inside : m.inside ≡ true → (enhanced (settings_of m) ≡ true) × (o.stepped.machine.inside ≡ enhanced (settings_of k))
  -- so it is the mode before entry, where service nests as it did
  pub as_before : enhanced (settings_of k) ≡ enhanced (settings_of m) → o.stepped.machine.inside ≡ m.inside

-- Each word of the header by itself: what RSM loads from a word that entry left so is as before entry, whatever the others hold. So a handler
-- that changes next IP, to have an instruction run again, has all other registers back.
pub record WordByWord (m : Machine) (kept : Word → Type 0) (k : Machine) (e o : Outcome) : Type 0 where
  pub dr7 : kept Dr7 → o.stepped.machine.registers.dr7 ≡ m.registers.dr7
  pub eflags : kept Eflags → o.stepped.machine.registers.eflags ≡ m.registers.eflags
  pub cr0 : kept Cr0 → o.stepped.machine.registers.cr0 ≡ m.registers.cr0
  pub selector : kept CsLevel → o.stepped.machine.registers.cs.selector ≡ m.registers.cs.selector
  pub descriptor : kept DescriptorHigh → kept DescriptorLow → o.stepped.machine.registers.cs.descriptor ≡ m.registers.cs.descriptor
  pub level : kept CsLevel → o.stepped.machine.registers.level ≡ m.registers.level
  pub writable : kept Flags → o.stepped.machine.registers.writable ≡ m.registers.writable
  pub eip : kept NextIp → o.stepped.machine.registers.eip ≡ word_in e.memory.management (place_of m) NextIp
  pub mode : kept Flags → ModeBack m k o
  pub halted : o.stepped.machine.halted ≡ false

-- RSM at the place that entry wrote to
abbrev pub WordsBack : Type 0
WordsBack =
    (m : Machine) (x : Memories) (s : Step) (ss : List Step) (rsm : Step) → MachineFits m → StepFits s → answer_to m x s ≡ 11
    → let e = stepped m x s in
    let r = serviced m x s ss in
    answer_after r rsm ≡ 12 → place_of r.machine ≡ place_of m
    → WordByWord m (λ w. word_in r.memory.management (place_of m) w ≡ word_in e.memory.management (place_of m) w) r.machine e
    (stepped r.machine r.memory rsm)

-- all of them
abbrev pub RegistersBack : Type 0
RegistersBack =
    (m : Machine) (x : Memories) (s : Step) (ss : List Step) (rsm : Step) → MachineFits m → StepFits s → answer_to m x s ≡ 11
    → let r = serviced m x s ss in
    let o = stepped r.machine r.memory rsm in
    answer_after r rsm ≡ 12 → HeaderKept m x s r → NoMark m (stepped m x s) o × ModeBack m r.machine o

-- ---- the segment registers

-- A register that is saved and restored, where at the save it is what it was before entry, on m, and at the end what the restore left: by values,
-- and not by what has or hasn't changed it between.
pub record PutBackByValue (m : Machine) (at : ℕ → Run) (ss : List Step) (n : SegmentName) (i j a b : ℕ) : Type 0 where
  pub bytes : SavedAndRestored at ss n i j a b
  pub early : segment_in (at i).machine n ≡ segment_in m n
  pub last : segment_in (at (length ss)).machine n ≡ segment_in (at (j + 1)).machine n

-- it is as before entry, after any step that is answered "resumed": nothing is asked of the header
abbrev pub SegmentsBack : Type 0
SegmentsBack =
    (m : Machine) (x : Memories) (s : Step) (ss : List Step) (rsm : Step) (n : SegmentName) (i j a b : ℕ) → MachineFits m
    → let r = serviced m x s ss in
    answer_after r rsm ≡ 12 → PutBackByValue m (serviced_to m x s ss) ss n i j a b
    → segment_in (stepped r.machine r.memory rsm).stepped.machine n ≡ segment_in m n

-- A segment register other than CS is changed by a reset and by a restore of it that is done, and by nothing else, an entry or an RSM no more than
-- any other step: over a stretch of a run without these it stays.
abbrev pub OnlyRestored : Type 0
OnlyRestored =
    (k : Machine) (y : Memories) (ss : List Step) (n : SegmentName) (from to : ℕ) → is_cs n ≡ false → from ≤ to → to ≤ length ss
    → let at : ℕ → Run = λ l. run k y (take l ss) in
    Untouched at ss n from to → segment_in (at to).machine n ≡ segment_in (at from).machine n
