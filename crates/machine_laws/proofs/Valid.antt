-- What an opcode and a port access ask of a machine. Assumes nothing.
use mathlib.Core.Path.{◌≡◌, refl}
use mathlib.Core.Bool.{Bool, true, false, cond, ◌&&◌}
use Prim.Native.Nat.{◌*◌, ◌/◌, ◌%◌}
use native.Mathlib.Omega.{arith}
use lib.Dec.{eqb}
use Rattle.fields.specs.Fields.{bit}
use Rattle.fields.proofs.Bits.{both_bits}
use Rattle.region.specs.Region.{usable}
use Rattle.settings.specs.declared.Settings.{Settings}
use Rattle.settings.specs.Settings.{region_in, opcodes_allowed}
use Rattle.settings_laws.proofs.Routing.{enabled_by_bits}
use Rattle.header.specs.Header.{level_number}
use Rattle.opcodes.specs.Decode.{allowed}
use Rattle.machine.specs.Machines.{settings_of}
use Rattle.machine.specs.Steps.{permitted, valid, performed}
use Rattle.machine_laws.specs.Valid.{ValidByBits, PortsByConfig}

-- the settings' part, on either side of the mode
by_side : (s : Settings) (inside : Bool)
    → bit (opcodes_allowed s inside) ≡ s.ccr1 / 2 % 2 * bit (usable (region_in s)) * cond inside 1 (s.ccr1 / 4 % 2)
by_side s true = omega (arith, (enabled_by_bits s).2)
by_side s false = (enabled_by_bits s).1

pub valid_by_bits : ValidByBits
unfolding valid permitted
valid_by_bits m o =
    let s = settings_of m in
    let zero = eqb (level_number m.registers.level) 0 in
    let work = opcodes_allowed s m.inside in
    rw (both_bits (zero && work) (allowed s m.inside o), both_bits zero work, by_side s m.inside) (omega arith)

pub ports_by_config : PortsByConfig
unfolding performed
ports_by_config m x port v = (refl, refl)
