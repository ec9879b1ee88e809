-- 01, "Forty-eight bytes below the top", and 02, requests 3 and 7: the twelve words of the header, and what RSM reads back from them.
use Rattle.std.specs.Prelude.{ℕ, ◌+◌, ◌*◌, ◌/◌, ◌%◌, ◌-◌, Bool, true, false, cond, eqb}
use mathlib.Core.List.{List, [], ◌∷◌, map, flat_map}
use Rattle.std.proofs.lemmas.List.Edits.{sets}
use Rattle.fields.specs.Fields.{field_at, bytes_of, bit}
use Rattle.steps.specs.declared.Transfer.{Transfer}
use Rattle.steps.specs.declared.Interruption.{Interruption}
use Rattle.steps.specs.declared.Interruption.TheVariants.{None, Input, Output, StringInput, StringOutput, RepInput, RepOutput}
use Rattle.header.specs.declared.Level.{Level}
use Rattle.header.specs.declared.Level.TheVariants.{Zero, One, Two, Three}
use Rattle.header.specs.declared.Registers.{Registers}
use Rattle.header.specs.declared.Trap.{Trap}
use Rattle.header.specs.declared.Saved.{Saved}

-- the privilege levels
abbrev pub level_number : Level → ℕ
level_number Zero = 0
level_number One = 1
level_number Two = 2
level_number Three = 3

-- the level of a number; the steps refuse one above 3, and two bits of the header hold none
abbrev pub level_of : ℕ → Level
level_of n = cond (eqb n 0) Zero (cond (eqb n 1) One (cond (eqb n 2) Two Three))

-- the size of an output, as the header has it: a bit for each byte. The steps refuse other sizes than 1, 2 and 4.
unfoldable pub size_bits : ℕ → ℕ
size_bits size = cond (eqb size 1) 0x1 (cond (eqb size 2) 0x3 0xf)

-- the port in bits 15-0, the size in bits 31-16
abbrev pub port_size : Transfer → ℕ
port_size t = t.port + 65536 * size_bits t.size

-- an output's data, cut to its size, 1, 2 or 4
unfoldable pub cut : Transfer → ℕ
cut t = cond (eqb t.size 1) (t.value % 256) (cond (eqb t.size 2) (t.value % 65536) t.value)

-- what is recorded of an interruption: I, P, the word of port and size, the output's data, ESI or EDI. What doesn't apply is 0.
abbrev pub trap : Bool → Bool → ℕ → ℕ → ℕ → Trap
trap i p transfer value index = record { output = i; rep = p; transfer = transfer; value = value; index = index }

abbrev pub trap_of : Interruption → Trap
trap_of None = trap false false 0 0 0
trap_of Input = trap false false 0 0 0
trap_of (Output t) = trap true false (port_size t) (cut t) 0
trap_of (StringInput i) = trap false false 0 0 i
trap_of (StringOutput t i) = trap true false (port_size t) (cut t) i
trap_of (RepInput i) = trap false true 0 0 i
trap_of (RepOutput t i) = trap true true (port_size t) (cut t) i

-- What entry at a boundary records, of a machine that is halted or not, and inside the mode or outside it. Current IP is the address that the
-- boundary gives, but EIP on a halted machine. Next IP is EIP, but for a REP form it is current IP: 01 has EIP for every boundary, and 02,
-- request 3, mends that (000, section 3.3.1). A halted machine meets no REP form: that is malformed.
abbrev pub boundary_saved : Registers → Bool → Bool → ℕ → Interruption → Saved
boundary_saved r halted inside current i =
    let ip = cond halted r.eip current in
    record {
      registers = r;
      current = ip;
      next = cond (trap_of i).rep ip r.eip;
      trap = trap_of i;
      smint = false;
      halted = halted;
      nested = inside;
    }

-- What entry by SMINT records. Next IP is the step's next address; current IP is EIP. It comes from outside: inside SMINT is invalid.
abbrev pub smint_saved : Registers → Bool → ℕ → Saved
smint_saved r halted next =
    record { registers = r; current = r.eip; next = next; trap = trap_of None; smint = true; halted = halted; nested = false }

-- the header's length, in bytes
abbrev pub header_length : ℕ
header_length = 48

-- the table's words
pub data Word : Type 0 where
  Dr7 Eflags Cr0 CurrentIp NextIp CsLevel DescriptorHigh DescriptorLow Flags PortSize OutputData StringIndex : Word

-- the table's first column: how far below the header's end each word begins
abbrev pub depth : Word → ℕ
depth Dr7 = 0x4
depth Eflags = 0x8
depth Cr0 = 0xc
depth CurrentIp = 0x10
depth NextIp = 0x14
depth CsLevel = 0x18
depth DescriptorHigh = 0x1c
depth DescriptorLow = 0x20
depth Flags = 0x24
depth PortSize = 0x28
depth OutputData = 0x2c
depth StringIndex = 0x30

-- its second column: what each word holds. The flags word has C (the code segment is writable) in bit 0, then I (output), P
-- (REP form), S (SMINT) and H (halted), and N in bit 15: entry came from inside the mode (02, request 7).
abbrev pub contents : Saved → Word → ℕ
contents s Dr7 = s.registers.dr7
contents s Eflags = s.registers.eflags
contents s Cr0 = s.registers.cr0
contents s CurrentIp = s.current
contents s NextIp = s.next
contents s CsLevel = s.registers.cs.selector + 2097152 * level_number s.registers.level
contents s DescriptorHigh = s.registers.cs.descriptor / 4294967296
contents s DescriptorLow = s.registers.cs.descriptor % 4294967296
contents s Flags =
    bit s.registers.writable + 2 * bit s.trap.output + 4 * bit s.trap.rep + 8 * bit s.smint + 16 * bit s.halted
    + 32768 * bit s.nested
contents s PortSize = s.trap.transfer
contents s OutputData = s.trap.value
contents s StringIndex = s.trap.index

-- the words from the lowest up
abbrev pub upward : List Word
upward =
    StringIndex ∷ OutputData ∷ PortSize ∷ Flags ∷ DescriptorLow ∷ DescriptorHigh
    ∷ CsLevel ∷ NextIp ∷ CurrentIp ∷ Cr0 ∷ Eflags ∷ Dr7 ∷ []

-- the bytes of words, one word after the other
abbrev pub words_bytes : List ℕ → List ℕ
words_bytes ws = flat_map (bytes_of 4) ws

-- the header's 48 bytes
unfoldable pub header_bytes : Saved → List ℕ
header_bytes s = words_bytes (map (contents s) upward)

-- management memory with the 48 bytes in it, the first at a place
unfoldable pub headed : List ℕ → ℕ → Saved → List ℕ
headed g at s = sets g at (header_bytes s)

-- a word of the header whose first byte is at a place
abbrev pub word_in : List ℕ → ℕ → Word → ℕ
word_in g at w = field_at g (at + (header_length - depth w)) 4

-- the registers that RSM loads; EIP is next IP
unfoldable pub resumed : List ℕ → ℕ → Registers
resumed g at = record {
  eip = word_in g at NextIp;
  eflags = word_in g at Eflags;
  cr0 = word_in g at Cr0;
  dr7 = word_in g at Dr7;
  cs = record {
    selector = word_in g at CsLevel % 65536;
    descriptor = word_in g at DescriptorLow + 4294967296 * word_in g at DescriptorHigh;
  };
  level = level_of (word_in g at CsLevel / 2097152 % 4);
  writable = eqb (word_in g at Flags % 2) 1;
}

-- 02, request 7: N of the header
abbrev pub nested_in : List ℕ → ℕ → Bool
nested_in g at = eqb (word_in g at Flags / 32768 % 2) 1

-- the same registers with another EIP
abbrev pub with_eip : Registers → ℕ → Registers
with_eip r eip = record { eip = eip; eflags = r.eflags; cr0 = r.cr0; dr7 = r.dr7; cs = r.cs; level = r.level; writable = r.writable }
