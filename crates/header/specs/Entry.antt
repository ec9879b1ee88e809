-- 01, "Forty-eight bytes below the top": the registers that entry loads.
use Rattle.std.specs.Prelude.{ℕ, ◌*◌, ◌/◌, ◌%◌, true, [], ◌∷◌}
use Rattle.std.specs.Int.Bits.{bit_and}
use Rattle.fields.specs.Fields.{number_by, number}
use Rattle.memory.specs.declared.Segment.{Segment}
use Rattle.header.specs.declared.Level.TheVariants.{Zero}
use Rattle.header.specs.declared.Registers.{Registers}

-- CR0 loses bits 0, 2, 3 and 31
unfoldable pub entry_cr0 : ℕ → ℕ
entry_cr0 c = bit_and c 0x7ffffff2

-- CS: bits 19-12 of the base are the selector's high byte, and the base's four bytes are bytes 2, 3, 4 and 7 of the descriptor
unfoldable pub entry_cs : ℕ → Segment
unfolding number_by
entry_cs base = record {
  selector = 256 * (base / 4096 % 256);
  descriptor =
      number
      (0xff ∷ 0xff ∷ base % 256 ∷ base / 256 % 256 ∷ base / 65536 % 256 ∷ 0x93 ∷ 0x8f ∷ base / 16777216 % 256 ∷ []);
}

-- all that entry loads, from the registers before it and the region's base
unfoldable pub entry_registers : Registers → ℕ → Registers
entry_registers r base = record { eip = 0; eflags = 2; cr0 = entry_cr0 r.cr0; dr7 = 0x400; cs = entry_cs base; level = Zero; writable = true }
