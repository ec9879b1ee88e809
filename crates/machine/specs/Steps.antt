-- 01, "The steps" and "Numbers the bench sees": what each step does, and one step of a machine over its two memories.
use Rattle.std.specs.Prelude.{ℕ, Bool, true, false, cond, ◌&&◌, eqb, Option, Some, None}
use Rattle.region.specs.declared.Region.{Region}
use Rattle.memory.specs.Memory.{segment, Memories, there, load, store, segment_at, store_segment, reads, writes}
use Rattle.refusals.specs.Refusals.{first_refusal}
use Rattle.steps.specs.declared.Answer.{Answer}
use Rattle.steps.specs.declared.Answer.TheVariants.{Done, Malformed, Invalid, Absent}
use Rattle.steps.specs.declared.Step.{Step}
use Rattle.steps.specs.declared.Step.TheVariants.{Reset, Registers, Read, Write, PortRead, PortWrite, Opcode, Boundary, MalformedBoundary, Halt, Wake}
use Rattle.settings.specs.Settings.{window_of, opcodes_allowed, smhr, with_smhr}
use Rattle.config.specs.Ports.{port_read, port_write}
use Rattle.config.specs.declared.Accessed.{Accessed}
use Rattle.header.specs.Header.{level_number, level_of, with_eip}
use Rattle.segments.specs.declared.SegmentName.{SegmentName}
use Rattle.opcodes.specs.declared.Operation.{Operation}
use Rattle.opcodes.specs.declared.Operation.TheVariants.{Save, Restore, Rdshr, Wrshr, Smint, Rsm, Undefined}
use Rattle.opcodes.specs.Decode.{operation_of, operand_size, allowed}
use Rattle.machine.specs.declared.Machine.{Machine}
use Rattle.machine.specs.declared.Stepped.{Stepped}
use Rattle.machine.specs.Machines.{settings_of, edition_of, with_registers, with_halted, with_config, with_settings, segment_in, with_segment, reset_machine}
use Rattle.machine.specs.Outcomes.{Outcome, gives, ends, refused}
use Rattle.machine.specs.Service.{entry_by_smint, boundary_step, resume}

-- the region whose bytes management memory answers
abbrev pub window : Machine → Region
window m = window_of (settings_of m) m.inside

-- ---- reset, registers

abbrev pub reset_step : Machine → Stepped
reset_step m = gives (reset_machine (edition_of m)) Done

abbrev pub registers_step : Machine → ℕ → ℕ → ℕ → ℕ → ℕ → ℕ → ℕ → ℕ → Stepped
registers_step m eip eflags cr0 dr7 selector descriptor level writable =
    gives
    (with_registers m (record {
      eip = eip;
      eflags = eflags;
      cr0 = cr0;
      dr7 = dr7;
      cs = segment selector descriptor;
      level = level_of level;
      writable = eqb writable 1;
    }))
    Done

-- ---- data read, data write: the machine stays

abbrev pub read_step : Machine → Memories → ℕ → ℕ → Stepped
read_step m x width a = gives m (reads (window m) x a width)

abbrev pub write_step : Machine → Memories → ℕ → ℕ → ℕ → Outcome
write_step m x width a v = let r = writes (window m) x a width v in ends (gives m r.answer) r.memory

-- ---- port read, port write: only the configuration moves

abbrev pub port_step : Machine → Accessed → Stepped
port_step m p = gives (with_config m p.config) p.answer

abbrev pub port_read_step : Machine → ℕ → Stepped
port_read_step m port = port_step m (port_read m.config port)

abbrev pub port_write_step : Machine → ℕ → ℕ → Stepped
port_write_step m port v = port_step m (port_write m.config port v m.inside)

-- ---- opcode

-- the opcodes work at level 0, where the settings allow them
unfoldable pub permitted : Machine → Bool
permitted m = eqb (level_number m.registers.level) 0 && opcodes_allowed (settings_of m) m.inside

-- an operation is valid where they do, and where it may run by its own rule (02, request 1: the fit, and the lock)
unfoldable pub valid : Machine → Operation → Bool
valid m o = permitted m && allowed (settings_of m) m.inside o

-- the operation that an opcode asks for; one that isn't valid is undefined
unfoldable pub operation_on : Machine → ℕ → ℕ → Operation
operation_on m op modrm = let o = operation_of (edition_of m) op modrm in cond (valid m o) o Undefined

-- an operation with an operand ends with EIP at the next address
abbrev pub advanced : Machine → ℕ → Machine
advanced m next = with_registers m (with_eip m.registers next)

-- SVDC, SVLDT and SVTS
unfoldable pub saved : Machine → Memories → SegmentName → ℕ → ℕ → Outcome
saved m x name a next = ends (gives (advanced m next) Done) (store_segment (window m) x a (segment_in m name))

-- RSDC, RSLDT and RSTS
unfoldable pub restored : Machine → Memories → SegmentName → ℕ → ℕ → Stepped
restored m x name a next = gives (advanced (with_segment m name (segment_at (window m) x a)) next) Done

-- 02, request 1: RDSHR stores SMHR
unfoldable pub smhr_stored : Machine → Memories → ℕ → ℕ → Outcome
smhr_stored m x a next = ends (gives (advanced m next) Done) (store (window m) x a (operand_size Rdshr) (smhr (settings_of m)))

-- WRSHR loads it
unfoldable pub smhr_loaded : Machine → Memories → ℕ → ℕ → Stepped
smhr_loaded m x a next =
    gives (advanced (with_settings m (with_smhr (settings_of m) (load (window m) x a (operand_size Wrshr)))) next) Done

-- an operation whose operand, if it has one, is all there
unfoldable pub operated : Machine → Memories → Operation → ℕ → ℕ → Outcome
operated m x (Save name) a next = saved m x name a next
operated m x (Restore name) a next = ends (restored m x name a next) x
operated m x Rdshr a next = smhr_stored m x a next
operated m x Wrshr a next = ends (smhr_loaded m x a next) x
operated m x Smint a next = entry_by_smint m x next
operated m x Rsm a next = ends (resume m x.management) x
operated m x Undefined a next = refused m x Invalid

-- An operand is there as a whole, or the step is refused. An undefined operation has none, so that answer 4 comes before 5.
unfoldable pub with_operand : Machine → Memories → Operation → ℕ → ℕ → Outcome
with_operand m x o a next = cond (there (window m) x a (operand_size o)) (operated m x o a next) (refused m x Absent)

unfoldable pub opcode_step : Machine → Memories → ℕ → ℕ → ℕ → ℕ → Outcome
opcode_step m x op modrm a next = with_operand m x (operation_on m op modrm) a next

-- ---- halt, wake

abbrev pub halt_step : Machine → Stepped
halt_step m = gives (with_halted m true) Done

abbrev pub wake_step : Machine → Stepped
wake_step m = gives (with_halted m false) Done

-- ---- any step

-- one that no refusal of 1 to 3 stops; a malformed boundary is never that
unfoldable pub performed : Machine → Memories → Step → Outcome
performed m x Reset = ends (reset_step m) x
performed m x (Registers eip eflags cr0 dr7 selector descriptor level writable) =
    ends (registers_step m eip eflags cr0 dr7 selector descriptor level writable) x
performed m x (Read width a) = ends (read_step m x width a) x
performed m x (Write width a v) = write_step m x width a v
performed m x (PortRead port) = ends (port_read_step m port) x
performed m x (PortWrite port v) = ends (port_write_step m port v) x
performed m x (Opcode op modrm a next) = opcode_step m x op modrm a next
performed m x (Boundary smi current i) = boundary_step m x (eqb smi 1) current i
performed m x MalformedBoundary = refused m x Malformed
performed m x Halt = ends (halt_step m) x
performed m x Wake = ends (wake_step m) x

-- refused, or performed
abbrev pub decided : Machine → Memories → Step → Option Answer → Outcome
decided m x s (Some a) = refused m x a
decided m x s None = performed m x s

unfoldable pub stepped : Machine → Memories → Step → Outcome
stepped m x s = decided m x s (first_refusal m.halted x s)
