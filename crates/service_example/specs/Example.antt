-- A service that meets all that specs/NoMark of service asks for, so that the theorems speak of something: with steps of every kind but reset,
-- refused ones too, with a service inside it, and with SMHR and SMAR moved.
use Rattle.std.specs.Prelude.{ℕ, ◌≡◌, true, false, List, [], ◌∷◌, map, replicate, drop}
use Rattle.memory.specs.Memory.{Memories, memories, segment}
use Rattle.steps.specs.declared.Step.{Step}
use Rattle.steps.specs.declared.Step.TheVariants.{Registers, Read, Write, PortRead, PortWrite, Opcode, Boundary, MalformedBoundary, Halt, Wake}
use Rattle.steps.specs.declared.Interruption.TheVariants.{None}
use Rattle.steps.specs.Answers.{number_of}
use Rattle.steps.specs.Widths.{StepFits}
use Rattle.settings.specs.declared.Edition.TheVariants.{Mii}
use Rattle.settings.specs.declared.Settings.{Settings}
use Rattle.header.specs.declared.Registers.{Registers as RegisterFile}
use Rattle.header.specs.declared.Level.TheVariants.{Three}
use Rattle.segments.specs.declared.SegmentName.TheVariants.{Es, Ds}
use Rattle.segments.specs.Segments.{with_named, reset_segments}
use Rattle.machine.specs.declared.Machine.{Machine}
use Rattle.machine.specs.Machines.{machine}
use Rattle.machine.specs.Steps.{stepped}
use Rattle.runs.specs.Runs.{answers_of}
use Rattle.isolation.specs.Widths.{MachineFits}
use Rattle.service.specs.NoMark.{serviced, serviced_to, Matching, Service, HeaderKept, PutBack}

-- USE_SMI, the lock and MAPEN set; 4 KiB at 1000h, and SMHR 1070h; SMM_MODE and N set
abbrev pub settings : Settings
settings = record {
  edition = Mii;
  ccr1 = 0x02;
  ccr3 = 0x11;
  high = 0x00;
  middle = 0x00;
  low = 0x11;
  ccr6 = 0x41;
  smhr0 = 0x70;
  smhr1 = 0x10;
  smhr2 = 0x00;
  smhr3 = 0x00;
}

abbrev pub registers : RegisterFile
registers = record {
  eip = 0x1002;
  eflags = 0x202;
  cr0 = 0xe0000011;
  dr7 = 0x455;
  cs = segment 0x001b 0x00cffb000000ffff;
  level = Three;
  writable = false;
}

-- a halted machine at level 3
abbrev pub before : Machine
before =
    machine registers (with_named reset_segments Ds (segment 0x0023 0x00cff3000000ffff)) true false false
    (record { settings = settings; index = 0; armed = false })

-- main memory reaches up to the region
abbrev pub start : Memories
start = memories (replicate 4096 0) (replicate 65536 0)

abbrev pub smi : Step
smi = Boundary 1 0x1000 None

abbrev pub rsm : Step
rsm = Opcode 0xaa 0 0 0

-- DS is saved at 0FFBh, five bytes to main memory and five to management memory, and ES at 1080h; both are then changed. Registers are loaded, data
-- is written and read, steps are refused (2, 3), an SMI is latched, the handler halts and is woken. SMHR is moved down to 1040h and N is set, so
-- that the SMI enters, and RSM is back from there. DS is put back. SMAR is moved to 2000h, and ES is put back from 2080h, where its ten bytes are
-- now. SMHR is moved to 2070h, so that it is as far above the region's base as it was.
abbrev pub steps : List Step
steps =
    Opcode 0x78 0x18 0x0ffb 0x10
    ∷ Opcode 0x78 0x00 0x1080 0x20
    ∷ Opcode 0x79 0x18 0x1100 0x30
    ∷ Opcode 0x79 0x00 0x1100 0x40
    ∷ Registers 0x50 0x46 0x60000010 0x401 0x0008 0x00cf9b000000ffff 0 0
    ∷ Write 4 0x1090 0x12345678
    ∷ Read 2 0x1090
    ∷ Read 3 0x1090
    ∷ smi
    ∷ MalformedBoundary
    ∷ Halt
    ∷ PortRead 0x22
    ∷ Wake
    ∷ PortRead 0x22
    ∷ PortWrite 0x22 0xb0
    ∷ PortWrite 0x23 0x40
    ∷ PortWrite 0x22 0xea
    ∷ PortWrite 0x23 0x41
    ∷ Boundary 0 0x50 None
    ∷ rsm
    ∷ Opcode 0x79 0x18 0x0ffb 0x60
    ∷ PortWrite 0x22 0xcf
    ∷ PortWrite 0x23 0x21
    ∷ Opcode 0x79 0x00 0x2080 0x70
    ∷ PortWrite 0x22 0xb0
    ∷ PortWrite 0x23 0x70
    ∷ PortWrite 0x22 0xb1
    ∷ PortWrite 0x23 0x20
    ∷ []

abbrev pub answers : List ℕ
answers = 0 ∷ 0 ∷ 0 ∷ 0 ∷ 0 ∷ 0 ∷ 6 ∷ 2 ∷ 10 ∷ 2 ∷ 0 ∷ 3 ∷ 0 ∷ 7 ∷ 0 ∷ 0 ∷ 0 ∷ 0 ∷ 11 ∷ 12 ∷ 0 ∷ 0 ∷ 0 ∷ 0 ∷ 0 ∷ 0 ∷ 0 ∷ 0 ∷ []

-- what RSM leaves after some steps of a service of a machine
abbrev pub after : Machine → List Step → Machine
after m ss = let r = serviced m start smi ss in (stepped r.machine r.memory rsm).stepped.machine

-- it meets all that is asked for, and leaves nothing of itself in these registers
pub record ServiceExample : Type 0 where
  pub machine : MachineFits before
  pub step : StepFits smi
  pub service : Service before start smi steps rsm
  pub answered : map number_of (answers_of (serviced before start smi steps)) ≡ answers
  pub header : HeaderKept before start smi (serviced before start smi steps)
  pub ds : PutBack (serviced_to before start smi steps) steps Ds 0 20 0x0ffb 0x0ffb
  pub es : PutBack (serviced_to before start smi steps) steps Es 1 23 0x1080 0x2080
  pub same : (after before steps).registers ≡ before.registers
  pub same_ds : (after before steps).segments.ds ≡ before.segments.ds
  pub same_es : (after before steps).segments.es ≡ before.segments.es
  pub awake : (after before steps).halted ≡ false
  pub outside : (after before steps).inside ≡ false

-- ---- an RSM that matches by what it reads, and not by the count

-- SMHR is moved and N is set, an SMI enters again, and its handler moves SMHR back: two entries, and then one RSM, which reads the header of the
-- first
abbrev pub past_inner : List Step
past_inner =
    PortWrite 0x22 0xb0
    ∷ PortWrite 0x23 0x40
    ∷ PortWrite 0x22 0xea
    ∷ PortWrite 0x23 0x41
    ∷ smi
    ∷ PortWrite 0x22 0xb0
    ∷ PortWrite 0x23 0x70
    ∷ []

pub record PastInnerExample : Type 0 where
  pub service : Service before start smi past_inner rsm
  pub answered : map number_of (answers_of (serviced before start smi past_inner)) ≡ 0 ∷ 0 ∷ 0 ∷ 0 ∷ 11 ∷ 0 ∷ 0 ∷ []
  pub header : HeaderKept before start smi (serviced before start smi past_inner)
  -- it doesn't match the second entry, which is step number 4
  pub alone : let r = serviced_to before start smi past_inner 4 in Matching r.machine r.memory smi (drop 5 past_inner) rsm → ⊥
  pub same : (after before past_inner).registers ≡ before.registers
  pub outside : (after before past_inner).inside ≡ false
