-- The decoding by its table. Assumes nothing.
use mathlib.Core.Path.{◌≡◌, refl}
use mathlib.Core.Bool.{cond}
use mathlib.Core.List.{List, [], ◌∷◌, ◌++◌}
use Prim.Native.Nat.{ℕ, zero, suc, ◌/◌, ◌%◌, ◌<◌}
use native.Mathlib.Omega.{arith}
use lib.ListN.{get_or}
use Rattle.std.proofs.lemmas.Bool.Decides.{nat_tests}
use lib.Dec.{eqb}
use borrow.Author.Tests.{ne_eqb, le-ltb}
use Rattle.fields.specs.Fields.{bytes_of}
use Rattle.fields.proofs.Cases.{both, either}
use Rattle.settings.specs.declared.Edition.{Edition}
use Rattle.settings.specs.declared.Edition.TheVariants.{Cx486, Mii}
use Rattle.segments.specs.declared.SegmentName.TheVariants.{Es, Cs, Ss, Ds, Fs, Gs, Ldtr, Tr}
use Rattle.opcodes.specs.declared.Operation.{Operation}
use Rattle.opcodes.specs.declared.Operation.TheVariants.{Save, Restore, Rdshr, Wrshr, Smint, Rsm, Undefined}
use Rattle.opcodes.specs.Decode.{data_segment, svdc, rsdc, plain, later, grouped, operation_of}
use Rattle.opcodes.specs.Listed.{Row, common, news, found, listed, listed_in, SizedByBytes, AllowedByBits}

pub sized_by_bytes : SizedByBytes
unfolding bytes_of
sized_by_bytes n d s v = (refl, refl, refl, refl, refl, refl, refl)

pub allowed_by_bits : AllowedByBits
allowed_by_bits s n = (refl, refl, refl, refl, grind (arith, nat_tests), refl, λ inside. (refl, refl, refl, refl))

-- ---- an opcode's operations by the field

svdc_listed : (f : ℕ) → svdc f ≡ get_or (Save Es ∷ Save Cs ∷ Save Ss ∷ Save Ds ∷ Save Fs ∷ Save Gs ∷ []) f Undefined
unfolding data_segment
svdc_listed zero = refl
svdc_listed (suc zero) = refl
svdc_listed (suc (suc zero)) = refl
svdc_listed (suc (suc (suc zero))) = refl
svdc_listed (suc (suc (suc (suc zero)))) = refl
svdc_listed (suc (suc (suc (suc (suc zero))))) = refl
svdc_listed (suc (suc (suc (suc (suc (suc f)))))) = rw (le-ltb (suc (suc (suc (suc (suc (suc f)))))) 6 (omega arith))

rsdc_listed : (f : ℕ) → rsdc f ≡ get_or (Restore Es ∷ Undefined ∷ Restore Ss ∷ Restore Ds ∷ Restore Fs ∷ Restore Gs ∷ []) f Undefined
unfolding data_segment
rsdc_listed zero = refl
rsdc_listed (suc zero) = refl
rsdc_listed (suc (suc zero)) = refl
rsdc_listed (suc (suc (suc zero))) = refl
rsdc_listed (suc (suc (suc (suc zero)))) = refl
rsdc_listed (suc (suc (suc (suc (suc zero))))) = refl
rsdc_listed (suc (suc (suc (suc (suc (suc f)))))) =
    let m = suc (suc (suc (suc (suc (suc f))))) in
    rw (ne_eqb m 1 (λ e. omega arith), le-ltb m 6 (omega arith))

plain_listed : (f : ℕ) (o : Operation) → plain f o ≡ get_or (o ∷ []) f Undefined
plain_listed zero o = refl
plain_listed (suc f) o = grind (arith, nat_tests)

-- ---- the table

module _ (op f : ℕ) where
  abbrev Same : Operation → List Operation → Type 0
  Same o l = o ≡ get_or l f Undefined

  -- the six of both editions, over whatever follows them
  same_group : (e : Edition) (rows : List Row)
      → Same (cond (eqb op 54) (later e (plain f Rdshr)) (cond (eqb op 55) (later e (plain f Wrshr)) Undefined)) (found rows op)
      → Same (grouped e op f) (found (common ++ rows) op)
  unfolding grouped
  same_group e rows rest =
      both Same (eqb op 120) (λ h. svdc_listed f)
      (λ h. both Same (eqb op 121) (λ h. rsdc_listed f)
      (λ h. both Same (eqb op 122) (λ h. plain_listed f (Save Ldtr))
      (λ h. both Same (eqb op 123) (λ h. plain_listed f (Restore Ldtr))
      (λ h. both Same (eqb op 124) (λ h. plain_listed f (Save Tr))
      (λ h. both Same (eqb op 125) (λ h. plain_listed f (Restore Tr)) (λ h. rest))))))

  group_486 : Same (grouped Cx486 op f) (found common op)
  group_486 = same_group Cx486 [] (either (λ o. o ≡ Undefined) (eqb op 54) (λ h. refl) (λ h. either (λ o. o ≡ Undefined) (eqb op 55) (λ h. refl) (λ h. refl)))

  group_mii : Same (grouped Mii op f) (found (common ++ news) op)
  group_mii =
      same_group Mii news
      (both Same (eqb op 54) (λ h. plain_listed f Rdshr) (λ h. both Same (eqb op 55) (λ h. plain_listed f Wrshr) (λ h. refl)))

as_listed : (smint op m : ℕ) (rows : List Row) (o : Operation) → m < 256 → o ≡ get_or (found rows op) (m / 8 % 8) Undefined
    → cond (eqb op smint) Smint (cond (eqb op 170) Rsm (cond (eqb (m / 64) 3) Undefined o)) ≡ listed smint rows op m
as_listed smint op m rows o l e = grind (arith, nat_tests)

pub as_table : (e : Edition) (op modrm : ℕ) → modrm < 256 → operation_of e op modrm ≡ listed_in e op modrm
unfolding operation_of
as_table Cx486 op modrm l = as_listed 126 op modrm common _ l (group_486 op (modrm / 8 % 8))
as_table Mii op modrm l = as_listed 56 op modrm (common ++ news) _ l (group_mii op (modrm / 8 % 8))
