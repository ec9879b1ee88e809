-- 01, "Boundary" and "Forty-eight bytes below the top", and 02, requests 1 and 7: entry to management mode, and the way back by RSM.
use Rattle.std.specs.Prelude.{ℕ, Bool, true, false, cond, ◌&&◌, ◌||◌, List}
use Rattle.memory.specs.Memory.{Memories, memories}
use Rattle.steps.specs.declared.Interruption.{Interruption}
use Rattle.steps.specs.declared.Answer.TheVariants.{Nothing, Ignored, Latched, Entered, Resumed}
use Rattle.settings.specs.Settings.{region_in, header_place}
use Rattle.nesting.specs.Nesting.{entered_settings, resumed_settings, takes, stays_inside}
use Rattle.header.specs.declared.Saved.{Saved}
use Rattle.header.specs.Header.{boundary_saved, smint_saved, headed, resumed, nested_in}
use Rattle.header.specs.Entry.{entry_registers}
use Rattle.machine.specs.declared.Machine.{Machine}
use Rattle.machine.specs.declared.Stepped.{Stepped}
use Rattle.machine.specs.Machines.{machine, settings_of, with_latched, with_settings}
use Rattle.machine.specs.Outcomes.{Outcome, gives, ends}

-- what is recorded of a machine at entry by a boundary, and at entry by SMINT
abbrev pub saved_at_boundary : Machine → ℕ → Interruption → Saved
saved_at_boundary m current i = boundary_saved m.registers m.halted m.inside current i

abbrev pub saved_by_smint : Machine → ℕ → Saved
saved_by_smint m next = smint_saved m.registers m.halted next

-- Entry loads its registers, wakes the machine and takes it inside, and where service nests it clears N. What becomes of the latch goes by how
-- it enters; nothing else moves.
unfoldable pub entered_machine : Machine → Bool → Machine
entered_machine m latched =
    with_settings
    (machine (entry_registers m.registers (region_in (settings_of m)).base) m.segments false true latched m.config)
    (entered_settings (settings_of m))

-- The header goes to its edition's place in management memory, whatever SMAC and MMAC say.
unfoldable pub entry : Machine → Memories → Saved → Bool → Outcome
entry m x s latched =
    ends (gives (entered_machine m latched) Entered) (memories x.main (headed x.management (header_place (settings_of m)) s))

-- entry at a boundary clears the latch
abbrev pub entry_at_boundary : Machine → Memories → ℕ → Interruption → Outcome
entry_at_boundary m x current i = entry m x (saved_at_boundary m current i) false

-- entry by SMINT keeps it
abbrev pub entry_by_smint : Machine → Memories → ℕ → Outcome
entry_by_smint m x next = entry m x (saved_by_smint m next) m.latched

-- A boundary takes an SMI that is asserted or latched where SMIs are enabled, outside the mode or where service nests and N is set: so a
-- latched one waits for that.
unfoldable pub taken : Machine → Bool → Bool
taken m asserted = takes (settings_of m) m.inside && (asserted || m.latched)

-- What a boundary does that takes none: an asserted SMI is latched inside the mode, and ignored outside it, where the latch is kept.
unfoldable pub passed : Machine → Bool → Stepped
passed m asserted = cond asserted (cond m.inside (gives (with_latched m true) Latched) (gives m Ignored)) (gives m Nothing)

unfoldable pub boundary_step : Machine → Memories → Bool → ℕ → Interruption → Outcome
boundary_step m x asserted current i = cond (taken m asserted) (entry_at_boundary m x current i) (ends (passed m asserted) x)

-- RSM loads the registers from the header, and leaves the mode with the machine awake. Where service nests it sets N, and it stays inside if the
-- header says that entry came from there.
unfoldable pub resume : Machine → List ℕ → Stepped
resume m g =
    let at = header_place (settings_of m) in
    let inside = stays_inside (settings_of m) (nested_in g at) in
    gives
    (with_settings (machine (resumed g at) m.segments false inside m.latched m.config) (resumed_settings (settings_of m)))
    Resumed
