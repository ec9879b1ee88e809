-- 01, "Opcode", and 02, request 1: what the byte after 0Fh and the ModRM byte ask for, by edition.
use Rattle.std.specs.Prelude.{ℕ, ◌/◌, ◌%◌, Bool, true, false, cond, not, ◌&&◌, ◌||◌, eqb, ltb}
use Rattle.settings.specs.declared.Edition.{Edition}
use Rattle.settings.specs.declared.Settings.{Settings}
use Rattle.settings.specs.Settings.{is_mii, smi_lock, header_fits}
use Rattle.segments.specs.declared.SegmentName.{SegmentName}
use Rattle.segments.specs.declared.SegmentName.TheVariants.{Es, Cs, Ss, Ds, Fs, Gs, Ldtr, Tr}
use Rattle.opcodes.specs.declared.Operation.{Operation}
use Rattle.opcodes.specs.declared.Operation.TheVariants.{Save, Restore, Rdshr, Wrshr, Smint, Rsm, Undefined}

-- the ModRM byte's mod and middle fields
abbrev pub mod_field : ℕ → ℕ
mod_field modrm = modrm / 64

abbrev pub middle_field : ℕ → ℕ
middle_field modrm = modrm / 8 % 8

-- the data segment that a middle field below 6 names to SVDC and RSDC; they take no other field, and RSDC takes no CS either
unfoldable pub data_segment : ℕ → SegmentName
data_segment field =
    cond (eqb field 0) Es (cond (eqb field 1) Cs (cond (eqb field 2) Ss (cond (eqb field 3) Ds (cond (eqb field 4) Fs Gs))))

abbrev pub svdc : ℕ → Operation
svdc field = cond (ltb field 6) (Save (data_segment field)) Undefined

abbrev pub rsdc : ℕ → Operation
rsdc field = cond (eqb field 1) Undefined (cond (ltb field 6) (Restore (data_segment field)) Undefined)

-- an operation whose middle field has to be 0
abbrev pub plain : ℕ → Operation → Operation
plain field o = cond (eqb field 0) o Undefined

-- an operation that only the later edition has
abbrev pub later : Edition → Operation → Operation
later e o = cond (is_mii e) o Undefined

-- SVDC, RSDC, SVLDT, RSLDT, SVTS and RSTS; of the later edition RDSHR and WRSHR
unfoldable pub grouped : Edition → ℕ → ℕ → Operation
grouped e opcode field =
    cond (eqb opcode 0x78) (svdc field)
    (cond (eqb opcode 0x79) (rsdc field)
    (cond (eqb opcode 0x7a) (plain field (Save Ldtr))
    (cond (eqb opcode 0x7b) (plain field (Restore Ldtr))
    (cond (eqb opcode 0x7c) (plain field (Save Tr))
    (cond (eqb opcode 0x7d) (plain field (Restore Tr))
    (cond (eqb opcode 0x36) (later e (plain field Rdshr))
    (cond (eqb opcode 0x37) (later e (plain field Wrshr)) Undefined)))))))

-- SMINT is 7Eh in the 486 edition and 38h in the later one; each byte names nothing in the other
abbrev pub smint_opcode : Edition → ℕ
smint_opcode e = cond (is_mii e) 0x38 0x7e

-- SMINT and RSM go by the opcode alone; the others need an operand in memory, so that mod is not 3
unfoldable pub operation_of : Edition → ℕ → ℕ → Operation
operation_of e opcode modrm =
    cond (eqb opcode (smint_opcode e)) Smint
    (cond (eqb opcode 0xaa) Rsm
    (cond (eqb (mod_field modrm) 3) Undefined (grouped e opcode (middle_field modrm))))

-- The bytes of the operand in memory: ten are a descriptor and then a selector, four are SMHR. SMINT and RSM have none.
abbrev pub operand_size : Operation → ℕ
operand_size (Save name) = 10
operand_size (Restore name) = 10
operand_size Rdshr = 4
operand_size Wrshr = 4
operand_size Smint = 0
operand_size Rsm = 0
operand_size Undefined = 0

-- Whether an operation may run inside the mode, or outside it, with these settings: SMINT and RSM only where the header fits, and WRSHR
-- outside only without the lock.
abbrev pub allowed : Settings → Bool → Operation → Bool
allowed s inside (Save name) = true
allowed s inside (Restore name) = true
allowed s inside Rdshr = true
allowed s inside Wrshr = inside || not (smi_lock s)
allowed s inside Smint = not inside && header_fits s
allowed s inside Rsm = inside && header_fits s
allowed s inside Undefined = false
