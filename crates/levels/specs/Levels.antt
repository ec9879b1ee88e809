-- 02, request 7: several services at once. Each entry writes its header at the place that SMHR gives then, and RSM reads the one at the place
-- that SMHR gives when it runs. So the headers stand beside each other where the handler moves SMHR, the outer one is overwritten where it
-- doesn't, and nothing nests without SMM_MODE. Demand 2 (isolation/specs/Service) says what each entry and each RSM does.
use Rattle.std.specs.Prelude.{ℕ, ◌+◌, ◌≤◌, ◌<◌, ◌≡◌, true, false, ◌&&◌, List, ◌⊎◌, get_or}
use Rattle.memory.specs.Memory.{Memories}
use Rattle.steps.specs.declared.Step.{Step}
use Rattle.steps.specs.declared.Step.TheVariants.{Opcode}
use Rattle.steps.specs.Answers.{number_of}
use Rattle.steps.specs.Widths.{StepFits}
use Rattle.settings.specs.declared.Edition.TheVariants.{Mii}
use Rattle.settings.specs.Settings.{region_in, smhr, header_place}
use Rattle.nesting.specs.Nesting.{enhanced}
use Rattle.header.specs.Header.{level_number, header_length, header_bytes, nested_in, with_eip}
use Rattle.machine.specs.declared.Machine.{Machine}
use Rattle.machine.specs.Outcomes.{Outcome}
use Rattle.machine.specs.Machines.{settings_of, edition_of}
use Rattle.machine.specs.Steps.{stepped}
use Rattle.isolation.specs.Widths.{MachineFits}
use Rattle.isolation.specs.Service.{answer_to, OnlyHeader, Entering, recorded}

-- the place of a machine's header in management memory
abbrev pub place_of : Machine → ℕ
place_of m = header_place (settings_of m)

-- the header's bytes of an entry
abbrev pub header_of : (m : Machine) {s : Step} → Entering m s → List ℕ
header_of m by = header_bytes (recorded m by)

-- 48 bytes stand in a memory from a place on
abbrev pub Stands : List ℕ → ℕ → List ℕ → Type 0
Stands g at bytes = (i : ℕ) → i < header_length → get_or g (at + i) 0 ≡ get_or bytes i 0

-- ---- one header

-- entry records where it came from
abbrev pub OriginRecorded : Type 0
OriginRecorded =
    (m : Machine) (x : Memories) (s : Step) → MachineFits m → StepFits s → answer_to m x s ≡ 11
    → nested_in (stepped m x s).memory.management (place_of m) ≡ m.inside

-- RSM back through the header of an entry that stands at its place, whatever happened since: to the registers before that entry, with next
-- IP for EIP, and where service nests to the mode before it. m is before the entry, k is before RSM, and o is after it.
pub record Through (m k : Machine) {s : Step} (by : Entering m s) (o : Outcome) : Type 0 where
  pub registers : o.stepped.machine.registers ≡ with_eip m.registers (recorded m by).next
  pub inside : o.stepped.machine.inside ≡ (enhanced (settings_of k) && m.inside)

abbrev pub ReturnsThrough : Type 0
ReturnsThrough =
    (m k : Machine) (y : Memories) (s : Step) (modrm a next : ℕ) → MachineFits m → StepFits s → (by : Entering m s)
    → Stands y.management (place_of k) (header_of m by)
    → let rsm = Opcode 0xaa modrm a next in
    answer_to k y rsm ≡ 12 → Through m k by (stepped k y rsm)

-- ---- two headers at one place

-- Two entries at one place, where what the first left in management memory is not moved between: the inner 48 bytes are there, and all else is
-- as before the outer entry, of which nothing is left.
abbrev pub Overwritten : Type 0
Overwritten =
    (m n : Machine) (x y : Memories) (s t : Step) → answer_to m x s ≡ 11 → answer_to n y t ≡ 11
    → y.management ≡ (stepped m x s).memory.management → place_of n ≡ place_of m
    → (by : Entering n t) → OnlyHeader x.management (stepped n y t).memory.management (place_of m) (header_of n by)

-- So a handler that doesn't move SMHR doesn't get out by RSM: after an entry from inside, at level 0, the first RSM stays inside, and every RSM
-- right after it leads to where the first has led.
abbrev pub NeverOut : Type 0
NeverOut =
    (m : Machine) (x : Memories) (s : Step) (modrm a next modrm' a' next' : ℕ) → MachineFits m → StepFits s
    → m.inside ≡ true → level_number m.registers.level ≡ 0 → answer_to m x s ≡ 11
    → let e = stepped m x s in
    let o = stepped e.stepped.machine e.memory (Opcode 0xaa modrm a next) in
    (number_of o.stepped.answer ≡ 12) × (o.stepped.machine.inside ≡ true) × (stepped o.stepped.machine o.memory (Opcode 0xaa modrm' a' next') ≡ o)

-- ---- two headers with SMHR moved between

-- of machines of the later edition with one region, SMHR has moved by 48 or more, down or up
pub record Moved (m n : Machine) : Type 0 where
  pub outer : edition_of m ≡ Mii
  pub inner : edition_of n ≡ Mii
  pub region : region_in (settings_of n) ≡ region_in (settings_of m)
  pub by_48 : (smhr (settings_of n) + header_length ≤ smhr (settings_of m)) ⊎ (smhr (settings_of m) + header_length ≤ smhr (settings_of n))

-- Then both headers stand, if the outer one still stood before the inner entry.
abbrev pub BothStand : Type 0
BothStand =
    (m n : Machine) (x y : Memories) (s t : Step) → answer_to m x s ≡ 11 → answer_to n y t ≡ 11 → Moved m n
    → (outer : Entering m s) (inner : Entering n t) → Stands y.management (place_of m) (header_of m outer)
    → let g = (stepped n y t).memory.management in
    Stands g (place_of m) (header_of m outer) × Stands g (place_of n) (header_of n inner)

-- And two RSMs return through both: the first right after the inner entry, the second on any machine k with SMHR where it was at the outer
-- entry, over memories z that still have the outer header.
pub record BothWays (m n k : Machine) (y z : Memories) {s t : Step} (outer : Entering m s) (inner : Entering n t) (rsm : Step) : Type 0 where
  pub first : let f = stepped n y t in
      Through n f.stepped.machine inner (stepped f.stepped.machine f.memory rsm)
  pub second : Through m k outer (stepped k z rsm)

abbrev pub BothReturn : Type 0
BothReturn =
    (m n k : Machine) (x y z : Memories) (s t : Step) (modrm a next : ℕ) → MachineFits m → MachineFits n → StepFits s → StepFits t
    → answer_to m x s ≡ 11 → answer_to n y t ≡ 11 → Moved m n
    → (outer : Entering m s) (inner : Entering n t) → Stands y.management (place_of m) (header_of m outer)
    → place_of k ≡ place_of m
    → ((i : ℕ) → i < header_length → get_or z.management (place_of m + i) 0 ≡ get_or (stepped n y t).memory.management (place_of m + i) 0)
    → let rsm = Opcode 0xaa modrm a next in
    answer_to k z rsm ≡ 12 → BothWays m n k y z outer inner rsm

-- ---- no nesting

-- In the 486 edition, and with SMM_MODE 0, an entry comes from outside, RSM leaves the mode whatever the header says, and neither moves the
-- configuration.
abbrev pub NothingNests : Type 0
NothingNests =
    (m : Machine) (x : Memories) (s : Step) → enhanced (settings_of m) ≡ false
    → let n = (stepped m x s).stepped.machine in
    (answer_to m x s ≡ 11 → (m.inside ≡ false) × (n.config ≡ m.config))
    × (answer_to m x s ≡ 12 → (n.inside ≡ false) × (n.config ≡ m.config))
