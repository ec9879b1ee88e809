-- The widths of a step's numbers (01, "What the machine holds", "The steps" and "Trace player"). A number of the contracts' language has no
-- bound, so a theorem that needs one asks for these. Every step of the code's own types has them: the function `widths` ensures it.
use Rattle.std.specs.Prelude.{◌<◌, ◌^◌}
use Rattle.steps.specs.declared.Transfer.{Transfer}
use Rattle.steps.specs.declared.Interruption.{Interruption}
use Rattle.steps.specs.declared.Interruption.TheVariants.{None, Input, Output, StringInput, StringOutput, RepInput, RepOutput}
use Rattle.steps.specs.declared.Step.{Step}
use Rattle.steps.specs.declared.Step.TheVariants.{Reset, Registers, Read, Write, PortRead, PortWrite, Opcode, Boundary, MalformedBoundary, Halt, Wake}

pub record TransferFits (t : Transfer) : Type 0 where
  pub port : t.port < 2 ^ 16
  pub size : t.size < 2 ^ 8
  pub value : t.value < 2 ^ 32

abbrev pub InterruptionFits : Interruption → Type 0
InterruptionFits None = Unit {0}
InterruptionFits Input = Unit {0}
InterruptionFits (Output t) = TransferFits t
InterruptionFits (StringInput i) = i < 2 ^ 32
InterruptionFits (StringOutput t i) = TransferFits t × (i < 2 ^ 32)
InterruptionFits (RepInput i) = i < 2 ^ 32
InterruptionFits (RepOutput t i) = TransferFits t × (i < 2 ^ 32)

abbrev pub StepFits : Step → Type 0
StepFits Reset = Unit {0}
StepFits (Registers eip eflags cr0 dr7 selector descriptor level writable) =
    (eip < 2 ^ 32) × (eflags < 2 ^ 32) × (cr0 < 2 ^ 32) × (dr7 < 2 ^ 32)
    × (selector < 2 ^ 16)
    × (descriptor < 2 ^ 64) × (level < 2 ^ 8) × (writable < 2 ^ 8)
StepFits (Read width a) = (width < 2 ^ 8) × (a < 2 ^ 32)
StepFits (Write width a v) = (width < 2 ^ 8) × (a < 2 ^ 32) × (v < 2 ^ 32)
StepFits (PortRead port) = port < 2 ^ 16
StepFits (PortWrite port v) = (port < 2 ^ 16) × (v < 2 ^ 8)
StepFits (Opcode op modrm a next) = (op < 2 ^ 8) × (modrm < 2 ^ 8) × (a < 2 ^ 32) × (next < 2 ^ 32)
StepFits (Boundary smi current i) = (smi < 2 ^ 8) × (current < 2 ^ 32) × InterruptionFits i
StepFits MalformedBoundary = Unit {0}
StepFits Halt = Unit {0}
StepFits Wake = Unit {0}
