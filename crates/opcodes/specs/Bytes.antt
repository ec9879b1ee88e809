-- 01, "Opcode", the other way about: which bytes ask for an operation, in either edition.
use Rattle.std.specs.Prelude.{ℕ, ◌+◌, ◌≡◌, ◌⊎◌}
use Rattle.settings.specs.declared.Edition.{Edition}
use Rattle.segments.specs.declared.SegmentName.{SegmentName}
use Rattle.segments.specs.declared.SegmentName.TheVariants.{Es, Cs, Ss, Ds, Fs, Gs, Ldtr, Tr}
use Rattle.opcodes.specs.declared.Operation.TheVariants.{Save, Restore, Rsm}
use Rattle.opcodes.specs.Decode.{operation_of}

-- RSM is AAh alone
abbrev pub ResumedBy : Type 0
ResumedBy = (e : Edition) (op modrm : ℕ) → operation_of e op modrm ≡ Rsm → op ≡ 0xaa

-- 78h, 7Ah and 7Ch save, and nothing else does
abbrev pub SavedBy : Type 0
SavedBy =
    (e : Edition) (op modrm : ℕ) (n : SegmentName) → operation_of e op modrm ≡ Save n → (op ≡ 0x78) ⊎ ((op ≡ 0x7a) ⊎ (op ≡ 0x7c))

-- nothing restores CS
abbrev pub CsNotRestored : Type 0
CsNotRestored = (e : Edition) (op modrm : ℕ) → operation_of e op modrm ≡ Restore Cs → ⊥

-- the seven others can be saved, and restored by the byte after
abbrev pub Both : Edition → SegmentName → ℕ → ℕ → Type 0
Both e n op modrm = (operation_of e op modrm ≡ Save n) × (operation_of e (op + 1) modrm ≡ Restore n)

abbrev pub SevenRestored : Type 0
SevenRestored =
    (e : Edition)
    → Both e Es 0x78 0x00 × Both e Ss 0x78 0x10 × Both e Ds 0x78 0x18 × Both e Fs 0x78 0x20 × Both e Gs 0x78 0x28
    × Both e Ldtr 0x7a 0x00
    × Both e Tr 0x7c 0x00
