-- 01, "Numbers the bench sees", "Boundary" and "Lock": what demands 1 and 2 and the lock say, said again of one step that the code makes. m and
-- x are before the step s, and o is after it. The function `makes` ensures it of every machine and any two memories, so that no hypothesis of a
-- theorem stands between.
use Rattle.std.specs.Prelude.{ℕ, ◌%◌, ◌≡◌, false, cond}
use Rattle.memory.specs.Memory.{Memories}
use Rattle.steps.specs.declared.Step.{Step}
use Rattle.steps.specs.declared.Step.TheVariants.{Reset, Boundary}
use Rattle.steps.specs.declared.Interruption.{Interruption}
use Rattle.steps.specs.Answers.{number_of, refusal}
use Rattle.settings.specs.Settings.{SameLocked}
use Rattle.nesting.specs.Nesting.{entered_settings}
use Rattle.machine.specs.declared.Machine.{Machine}
use Rattle.machine.specs.Machines.{settings_of}
use Rattle.machine.specs.Outcomes.{Outcome, refused}
use Rattle.isolation.specs.Refusals.{called_for}
use Rattle.isolation.specs.Service.{Passing}

-- a step is refused by the number that is called for, and by no other (demand 1)
abbrev pub RefusedBy : Machine → Memories → Step → Outcome → Type 0
RefusedBy m x s o = let a = o.stepped.answer in cond (refusal a) (number_of a) 0 ≡ called_for m x s

-- a refused step leaves the machine and both memories (demand 1)
abbrev pub RefusalLeaves : Machine → Memories → Outcome → Type 0
RefusalLeaves m x o = let a = o.stepped.answer in o ≡ cond (refusal a) (refused m x a) o

-- what a boundary does that isn't refused and doesn't enter, whether an SMI was latched before or not (demand 2)
abbrev pub BoundaryPasses : Machine → Memories → Step → Outcome → Type 0
BoundaryPasses m x s o =
    (smi current : ℕ) (i : Interruption) → s ≡ Boundary smi current i
    → let a = o.stepped.answer in
    refusal a ≡ false → (number_of a ≡ 11 → ⊥) → Passing m x smi o

-- outside the mode with CCR3 bit 0 set, whatever CCR1 says, no step but a reset changes what the lock covers, but that entry may clear N
abbrev pub LockKeeps : Machine → Step → Outcome → Type 0
LockKeeps m s o =
    let before = settings_of m in
    let after = settings_of o.stepped.machine in
    let n = number_of o.stepped.answer in
    m.inside ≡ false → before.ccr3 % 2 ≡ 1 → (s ≡ Reset → ⊥)
    → ((n ≡ 11 → ⊥) → SameLocked after before) × (n ≡ 11 → after ≡ entered_settings before)
