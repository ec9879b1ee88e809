-- Routing, enabling and the opcodes by raw bits. Assumes nothing.
use mathlib.Core.Path.{◌≡◌, refl, sym, ◌∙◌}
use mathlib.Core.Bool.{Bool, true, false, cond, not, ◌&&◌, ◌||◌, and-true, and-false, and_assoc, or-false}
use Prim.Native.Nat.{ℕ, ◌%◌}
use native.Mathlib.Omega.{arith}
use Rattle.std.proofs.lemmas.Bool.Decides.{nat_tests}
use Rattle.fields.proofs.Bits.{bit_of}
use Rattle.region.specs.declared.Region.{Region}
use Rattle.region.specs.Region.{usable, within}
use Rattle.memory.specs.Memory.{cell_of}
use Rattle.settings.specs.Settings.{use_smi, smac, mmac, region_in, routed, window_of, enabled, opcodes_allowed}
use Rattle.settings_laws.specs.Routing.{WindowRoutes, RoutedByBits, EnabledByBits, Ccr3ByBits}

-- a region, or where a test fails the same with code 0: its addresses, and its base
module _ (r : Region) (a : ℕ) where
  abbrev opened : Bool → Region
  opened t = cond t r (record { base = r.base; code = 0 })

  opened_has : (t : Bool) → within (opened t) a ≡ (within r a && t)
  unfolding within usable
  opened_has true = sym (and-true (within r a))
  opened_has false = sym (and-false (within r a))

  opened_base : (t : Bool) → (opened t).base ≡ r.base
  opened_base true = refl
  opened_base false = refl

sides : (inside c m : Bool) → cond inside (not m) c ≡ ((not inside && c) || (inside && not m))
sides true c m = refl
sides false c m = sym (or-false c)

pub window_routes : WindowRoutes
unfolding window_of routed cell_of
window_routes s inside a =
    let r = region_in s in
    let t = use_smi s && cond inside (not (mmac s)) (smac s) in
    let e : within (window_of s inside) a ≡ routed s inside a
    = opened_has r a t ∙ rw (sides inside (smac s) (mmac s)) (sym (and_assoc (within r a) (use_smi s) _)) in
    (e, rw (e, opened_base r a t))

pub routed_by_bits : RoutedByBits
unfolding routed
routed_by_bits s a = (grind (arith, nat_tests), grind (arith, nat_tests))

pub enabled_by_bits : EnabledByBits
unfolding enabled opcodes_allowed
enabled_by_bits s = (grind (arith, nat_tests), grind (arith, nat_tests), grind (arith, nat_tests))

pub ccr3_by_bits : Ccr3ByBits
ccr3_by_bits s = (bit_of (s.ccr3 % 2) (omega arith), grind (arith, nat_tests))
