-- 01, "Routing", "Data read or write", "Opcode" and answer 5, of a machine, a second time: which byte of which memory each byte of an access is.
-- It goes by `routed` and by nothing else of the machine.
use Rattle.std.specs.Prelude.{ℕ, zero, suc, ◌+◌, ◌-◌, ◌≡◌, Bool, true, cond, ◌&&◌, ◌||◌, List, [], ◌∷◌, ◌++◌, length, leb, ltb}
use Rattle.fields.specs.Fields.{number_by, bytes_of}
use Rattle.memory.specs.Memory.{segment, Memories, Cell, byte_in, store_in, there}
use Rattle.steps.specs.declared.Answer.TheVariants.{Done, Value, Absent}
use Rattle.steps.specs.declared.Step.TheVariants.{Read, Write}
use Rattle.settings.specs.Settings.{region_in, routed, smhr, with_smhr}
use Rattle.segments.specs.declared.SegmentName.{SegmentName}
use Rattle.opcodes.specs.declared.Operation.TheVariants.{Save, Restore, Rdshr, Wrshr}
use Rattle.machine.specs.declared.Machine.{Machine}
use Rattle.header.specs.declared.Registers.{Registers}
use Rattle.machine.specs.Machines.{settings_of, with_registers, with_settings, segment_in, with_segment}
use Rattle.machine.specs.Outcomes.{Outcome, gives, ends, refused}
use Rattle.machine.specs.Steps.{window, operated, performed}

abbrev pub managed : Machine → ℕ → Bool
managed m a = routed (settings_of m) m.inside a

-- a routed byte is management memory's, by its distance from SMAR's base; all else goes to main
abbrev pub cell_at : Machine → ℕ → Cell
cell_at m a = cond (managed m a) (Cell.InManagement (a - (region_in (settings_of m)).base)) (Cell.InMain a)

-- n bytes from a on are there: none is above FFFFFFFFh, and each is routed or before main memory's end
unfoldable pub whole : Machine → Memories → ℕ → ℕ → Bool
whole m x a zero = true
whole m x a (suc n) = (leb a 4294967295 && (managed m a || ltb a (length x.main))) && whole m x (a + 1) n

-- the number in them, and the memories with bytes put there
abbrev pub number_at : Machine → Memories → ℕ → ℕ → ℕ
number_at m x a n = number_by (λ (k : ℕ). byte_in x (cell_at m k)) a n

unfoldable pub put : Machine → Memories → ℕ → List ℕ → Memories
put m x a [] = x
put m x a (b ∷ bs) = put m (store_in x (cell_at m a) b) (a + 1) bs

-- answer 5 goes by these bytes
abbrev pub WholeByCells : Type 0
WholeByCells = (m : Machine) (x : Memories) (a n : ℕ) → there (window m) x a n ≡ whole m x a n

-- a data read and a data write
abbrev pub ReadsByCells : Type 0
ReadsByCells =
    (m : Machine) (x : Memories) (width a : ℕ)
    → performed m x (Read width a) ≡ ends (gives m (cond (whole m x a width) (Value (number_at m x a width)) Absent)) x

abbrev pub WritesByCells : Type 0
WritesByCells =
    (m : Machine) (x : Memories) (width a v : ℕ)
    → performed m x (Write width a v)
    ≡ cond (whole m x a width) (ends (gives m Done) (put m x a (bytes_of width v))) (refused m x Absent)

-- the operands: a descriptor's eight bytes and then a selector's two, or SMHR's four; EIP is then the next address, and no other register moves
abbrev pub moved_on : Registers → ℕ → Registers
moved_on r next = record {
  eip = next;
  eflags = r.eflags;
  cr0 = r.cr0;
  dr7 = r.dr7;
  cs = r.cs;
  level = r.level;
  writable = r.writable;
}

abbrev pub completed : Machine → ℕ → Memories → Outcome
completed m next x = ends (gives (with_registers m (moved_on m.registers next)) Done) x

abbrev pub OperandsByCells : Type 0
OperandsByCells =
    (m : Machine) (x : Memories) (n : SegmentName) (a next : ℕ)
    → (operated m x (Save n) a next
    ≡ completed m next (put m x a (bytes_of 8 (segment_in m n).descriptor ++ bytes_of 2 (segment_in m n).selector)))
    × (operated m x (Restore n) a next
    ≡ completed (with_segment m n (segment (number_at m x (a + 8) 2) (number_at m x a 8))) next x)
    × (operated m x Rdshr a next ≡ completed m next (put m x a (bytes_of 4 (smhr (settings_of m)))))
    × (operated m x Wrshr a next ≡ completed (with_settings m (with_smhr (settings_of m) (number_at m x a 4))) next x)
