-- 02, requests 1 and 7: what holds of the editions beside the demands.
use Rattle.std.specs.Prelude.{ℕ, ◌+◌, ◌<◌, ◌≡◌, Bool, true, false, not, ◌||◌, eqb}
use Rattle.region.specs.Region.{size_of}
use Rattle.memory.specs.Memory.{Memories}
use Rattle.steps.specs.declared.Step.{Step}
use Rattle.steps.specs.declared.Step.TheVariants.{Reset, Opcode}
use Rattle.steps.specs.Steps.{by_step}
use Rattle.settings.specs.declared.Edition.TheVariants.{Cx486, Mii}
use Rattle.settings.specs.declared.Settings.{Settings}
use Rattle.settings.specs.Settings.{smi_lock, mapen, region_in, smhr, with_edition, SameLocked}
use Rattle.nesting.specs.Nesting.{smm_mode, entered_settings}
use Rattle.header.specs.Header.{header_length}
use Rattle.machine.specs.declared.Machine.{Machine}
use Rattle.machine.specs.Machines.{settings_of, edition_of, with_settings, reset_machine}
use Rattle.machine.specs.Outcomes.{Outcome, gives, ends}
use Rattle.machine.specs.Steps.{stepped}
use Rattle.isolation.specs.Service.{answer_to}

-- no step changes the edition, a reset included
abbrev pub EditionStays : Type 0
EditionStays = (m : Machine) (x : Memories) (s : Step) → edition_of (stepped m x s).stepped.machine ≡ edition_of m

-- Outside the mode under the lock no step but a reset changes what the edition's lock covers, whatever SMAC says, but that entry may clear N.
-- (Demand 3 has SMAC clear.)
abbrev pub LockHolds : Type 0
LockHolds =
    (m : Machine) (x : Memories) (s : Step) → m.inside ≡ false → smi_lock (settings_of m) ≡ true → (s ≡ Reset → ⊥)
    → let after = settings_of (stepped m x s).stepped.machine in
    ((answer_to m x s ≡ 11 → ⊥) → SameLocked after (settings_of m)) × (answer_to m x s ≡ 11 → after ≡ entered_settings (settings_of m))

-- while SMHR is below 48 no step of the later core enters or resumes; after a reset SMHR is 0
abbrev pub NoService : Type 0
NoService =
    ((m : Machine) (x : Memories) (s : Step) → edition_of m ≡ Mii → smhr (settings_of m) < header_length
    → (answer_to m x s ≡ 11 → ⊥) × (answer_to m x s ≡ 12 → ⊥))
    × (smhr (settings_of (reset_machine Mii)) ≡ 0)

-- the same machine in the 486 edition
abbrev pub settings486 : Settings → Settings
settings486 s = with_edition s Cx486

abbrev pub as486 : Machine → Machine
as486 m = with_settings m (settings486 (settings_of m))

-- what a step leaves, with that machine
abbrev pub outcome486 : Outcome → Outcome
outcome486 o = ends (gives (as486 o.stepped.machine) o.stepped.answer) o.memory

-- a step that is no opcode with one of the bytes that the editions read differently: 36h, 37h, 38h and 7Eh
abbrev pub common : Step → Bool
common =
    by_step (λ width a. true) (λ width a v. true)
    (λ op modrm a next. not (eqb op 0x36 || eqb op 0x37 || eqb op 0x38 || eqb op 0x7e)) (λ smi current i. true) true

-- With SMHR at the region's end, MAPEN off and SMM_MODE 0, the later core does on every such step what the 486 one does: the same answer, the
-- same memories, and the same machine but for the edition.
abbrev pub SameWithoutNews : Type 0
SameWithoutNews =
    (m : Machine) (x : Memories) (s : Step)
    → edition_of m ≡ Mii → mapen (settings_of m) ≡ false → smm_mode (settings_of m) ≡ false
    → smhr (settings_of m) ≡ (region_in (settings_of m)).base + size_of (region_in (settings_of m)).code
    → common s ≡ true → stepped (as486 m) x s ≡ outcome486 (stepped m x s)

-- `common` leaves out those four bytes alone
abbrev pub CommonAsked : Type 0
CommonAsked =
    ((s : Step) → ((op modrm a next : ℕ) → s ≡ Opcode op modrm a next → ⊥) → common s ≡ true)
    × ((op modrm a next : ℕ) → (op ≡ 0x36 → ⊥) → (op ≡ 0x37 → ⊥) → (op ≡ 0x38 → ⊥) → (op ≡ 0x7e → ⊥)
    → common (Opcode op modrm a next) ≡ true)
