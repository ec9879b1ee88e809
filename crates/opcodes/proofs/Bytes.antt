-- What opcode and ModRM ask for, by cases. Assumes nothing.
use mathlib.Core.Path.{◌≡◌, refl}
use mathlib.Core.Bool.{false}
use Prim.Native.Nat.{ℕ}
use native.Mathlib.Omega.{arith}
use lib.Dec.{eqb}
use Rattle.std.proofs.lemmas.Bool.Decides.{nat_tests}
use Rattle.fields.proofs.Cases.{unlike}
use Rattle.settings.specs.declared.Edition.{Edition}
use Rattle.settings.specs.declared.Edition.TheVariants.{Cx486, Mii}
use Rattle.segments.specs.declared.SegmentName.{SegmentName}
use Rattle.segments.specs.declared.SegmentName.TheVariants.{Cs}
use Rattle.segments.specs.Segments.{is_cs}
use Rattle.opcodes.specs.declared.Operation.{Operation}
use Rattle.opcodes.specs.declared.Operation.TheVariants.{Save, Restore, Rdshr, Wrshr, Smint, Rsm, Undefined}
use Rattle.opcodes.specs.Decode.{data_segment, grouped, operation_of}
use Rattle.opcodes.specs.Bytes.{ResumedBy, SavedBy, CsNotRestored, SevenRestored}

-- ---- RSM, and saving

-- what sort of operation it is
abbrev pub sort : Operation → ℕ
sort (Save name) = 0
sort (Restore name) = 1
sort Rdshr = 2
sort Wrshr = 3
sort Smint = 4
sort Rsm = 5
sort Undefined = 6

pub resumed_by : ResumedBy
unfolding operation_of grouped
resumed_by e op modrm d = grind (arith, nat_tests)

pub saved_by : SavedBy
unfolding operation_of grouped
saved_by e op modrm n d = grind (arith, nat_tests)

-- ---- restoring

data_segment_lem : (f : ℕ) → eqb f 1 ≡ false → is_cs (data_segment f) ≡ false
unfolding data_segment
data_segment_lem f h = grind (arith, nat_tests)

pub restored_other : (e : Edition) (op modrm : ℕ) (n : SegmentName) → operation_of e op modrm ≡ Restore n → is_cs n ≡ false
unfolding operation_of grouped
restored_other e op modrm n d = grind (arith, nat_tests, data_segment_lem)

pub cs_not_restored : CsNotRestored
cs_not_restored e op modrm d = unlike refl (restored_other e op modrm Cs d)

pub seven_restored : SevenRestored
unfolding operation_of grouped data_segment
seven_restored Cx486 = ((refl, refl), (refl, refl), (refl, refl), (refl, refl), (refl, refl), (refl, refl), (refl, refl))
seven_restored Mii = ((refl, refl), (refl, refl), (refl, refl), (refl, refl), (refl, refl), (refl, refl), (refl, refl))
