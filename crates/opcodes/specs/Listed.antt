-- 01, "Opcode", and 02, request 1, a second time: the whole decoding as a table of bytes, the operand's size and what is allowed by raw numbers.
use Rattle.std.specs.Prelude.{ℕ, ◌+◌, ◌/◌, ◌%◌, ◌≡◌, Bool, true, false, cond, List, [], ◌∷◌, ◌++◌, length, get_or, eqb, ltb}
use Rattle.fields.specs.Fields.{bit, bytes_of}
use Rattle.settings.specs.declared.Edition.{Edition}
use Rattle.settings.specs.declared.Edition.TheVariants.{Cx486, Mii}
use Rattle.settings.specs.declared.Settings.{Settings}
use Rattle.settings.specs.Settings.{header_fits}
use Rattle.segments.specs.declared.SegmentName.{SegmentName}
use Rattle.segments.specs.declared.SegmentName.TheVariants.{Es, Cs, Ss, Ds, Fs, Gs, Ldtr, Tr}
use Rattle.opcodes.specs.declared.Operation.{Operation}
use Rattle.opcodes.specs.declared.Operation.TheVariants.{Save, Restore, Rdshr, Wrshr, Smint, Rsm, Undefined}
use Rattle.opcodes.specs.Decode.{operand_size, allowed}

-- a byte after 0Fh, and its operations in memory by ModRM's middle field, 0 first; the fields that the list lacks name none
pub record Row : Type 0 where
  pub opcode : ℕ
  pub operations : List Operation

abbrev pub row : ℕ → List Operation → Row
row opcode operations = record { opcode = opcode; operations = operations }

-- the six of both editions
abbrev pub common : List Row
common =
    row 120 (Save Es ∷ Save Cs ∷ Save Ss ∷ Save Ds ∷ Save Fs ∷ Save Gs ∷ [])
    ∷ row 121 (Restore Es ∷ Undefined ∷ Restore Ss ∷ Restore Ds ∷ Restore Fs ∷ Restore Gs ∷ [])
    ∷ row 122 (Save Ldtr ∷ [])
    ∷ row 123 (Restore Ldtr ∷ [])
    ∷ row 124 (Save Tr ∷ [])
    ∷ row 125 (Restore Tr ∷ [])
    ∷ []

-- those that the later edition has besides, RDSHR and WRSHR
abbrev pub news : List Row
news = row 54 (Rdshr ∷ []) ∷ row 55 (Wrshr ∷ []) ∷ []

-- the first row with the opcode; none is an empty list
abbrev pub found : List Row → ℕ → List Operation
found [] op = []
found (r ∷ rows) op = cond (eqb op r.opcode) r.operations (found rows op)

-- SMINT and RSM, which is AAh, go with any ModRM; the others need one below C0h, which is a mod of 0 to 2
abbrev pub listed : ℕ → List Row → ℕ → ℕ → Operation
listed smint rows op modrm =
    cond (eqb op smint) Smint
    (cond (eqb op 170) Rsm (cond (ltb modrm 192) (get_or (found rows op) (modrm / 8 % 8) Undefined) Undefined))

-- SMINT is 7Eh or 38h
abbrev pub listed_in : Edition → ℕ → ℕ → Operation
listed_in Cx486 = listed 126 common
listed_in Mii = listed 56 (common ++ news)

-- an operand is a descriptor's eight bytes and a selector's two, or SMHR's four
abbrev pub SizedByBytes : Type 0
SizedByBytes =
    (n : SegmentName) (descriptor selector smhr : ℕ)
    → let segment = length (bytes_of 8 descriptor ++ bytes_of 2 selector) in
    let word = length (bytes_of 4 smhr) in
    (operand_size (Save n) ≡ segment) × (operand_size (Restore n) ≡ segment) × (operand_size Rdshr ≡ word) × (operand_size Wrshr ≡ word)
    × (operand_size Smint ≡ 0)
    × (operand_size Rsm ≡ 0)
    × (operand_size Undefined ≡ 0)

-- Outside the mode RSM is never allowed and WRSHR by CCR3's lowest bit alone; inside SMINT never is. Where SMINT and RSM may be, the header has
-- to fit; the rest asks nothing more on either side.
abbrev pub AllowedByBits : Type 0
AllowedByBits =
    (s : Settings) (n : SegmentName)
    → (allowed s false Rsm ≡ false) × (allowed s true Rsm ≡ header_fits s) × (allowed s false Smint ≡ header_fits s) × (allowed s true Smint ≡ false)
    × (bit (allowed s false Wrshr) + s.ccr3 % 2 ≡ 1)
    × (allowed s true Wrshr ≡ true)
    × ((inside : Bool)
    → (allowed s inside (Save n) ≡ true) × (allowed s inside (Restore n) ≡ true) × (allowed s inside Rdshr ≡ true)
    × (allowed s inside Undefined ≡ false))
