-- 01, "Routing", "Boundary" and "Opcode", a second time, by raw bits: no other setting, the lock least of all, opens or shuts management memory,
-- enables SMIs or allows an opcode. USE_SMI, SMAC and MMAC are CCR1 / 2, / 4 and / 8, each mod 2.
use Rattle.std.specs.Prelude.{ℕ, ◌*◌, ◌-◌, ◌/◌, ◌%◌, ◌≡◌, Bool, true, false, cond, ◌&&◌, leb}
use Rattle.fields.specs.Fields.{bit}
use Rattle.region.specs.Region.{usable, within}
use Rattle.memory.specs.Memory.{Cell, cell_of}
use Rattle.settings.specs.declared.Settings.{Settings}
use Rattle.settings.specs.Settings.{smi_lock, mapen, region_in, routed, window_of, header_fits, enabled, opcodes_allowed}

-- the window has the addresses that 01 routes, and memory finds their bytes by the distance from SMAR's base
abbrev pub WindowRoutes : Type 0
WindowRoutes =
    (s : Settings) (inside : Bool) (a : ℕ)
    → (within (window_of s inside) a ≡ routed s inside a)
    × (cell_of (window_of s inside) a ≡ cond (routed s inside a) (Cell.InManagement (a - (region_in s).base)) (Cell.InMain a))

-- outside the mode by USE_SMI and SMAC, inside by USE_SMI and the opposite of MMAC
abbrev pub RoutedByBits : Type 0
RoutedByBits =
    (s : Settings) (a : ℕ)
    → let there = bit (within (region_in s) a) * (s.ccr1 / 2 % 2) in
    (bit (routed s false a) ≡ there * (s.ccr1 / 4 % 2)) × (bit (routed s true a) ≡ there * (1 - s.ccr1 / 8 % 2))

-- SMIs by USE_SMI and the opposite of SMAC; the opcodes outside by USE_SMI and SMAC, and inside by USE_SMI
abbrev pub EnabledByBits : Type 0
EnabledByBits =
    (s : Settings)
    → let use-smi = s.ccr1 / 2 % 2 in
    let region = bit (usable (region_in s)) in
    (bit (enabled s) ≡ use-smi * (1 - s.ccr1 / 4 % 2) * region * bit (header_fits s))
    × (bit (opcodes_allowed s false) ≡ use-smi * region * (s.ccr1 / 4 % 2))
    × (bit (opcodes_allowed s true) ≡ use-smi * region)

-- CCR3: the lock is its lowest bit, and MAPEN is on in a byte from 10h to 1Fh
abbrev pub Ccr3ByBits : Type 0
Ccr3ByBits = (s : Settings) → (bit (smi_lock s) ≡ s.ccr3 % 2) × (mapen s ≡ (leb 16 (s.ccr3 % 256) && leb (s.ccr3 % 256) 31))
