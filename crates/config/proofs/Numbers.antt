-- Ports and indexes by raw numbers. Assumes nothing.
use mathlib.Core.Path.{◌≡◌, refl}
use Prim.Native.Nat.{ℕ, ◌+◌, ◌%◌}
use native.Mathlib.Omega.{arith}
use Rattle.std.proofs.lemmas.Bool.Decides.{nat_tests}
use Rattle.config.specs.declared.Config.{Config}
use Rattle.config.specs.Ports.{always_internal, internal, port_read, port_write}
use Rattle.config.specs.Numbers.{Untouched, OtherPorts, PortOfIndex, PortOfData, InternalByNumber}

untouched : (c : Config) (port : ℕ) → (port ≡ 34 → ⊥) × (port ≡ 35 → ⊥) → Untouched c port
unfolding port_read port_write
untouched c port h v inside = grind (arith, nat_tests)

pub other_ports : OtherPorts
unfolding port_read port_write
other_ports c k = (untouched c (k % 34) (omega arith), untouched c (36 + k) (omega arith), λ v inside. (refl, refl))

pub port_of_index : PortOfIndex
unfolding port_read port_write
port_of_index c v inside = (refl, refl)

pub port_of_data : PortOfData
unfolding port_read port_write
port_of_data s i v inside = (refl, refl)

pub internal_by_number : InternalByNumber
unfolding internal always_internal
internal_by_number s i = grind (arith, nat_tests)
