-- 01, "Opcode" and "Port read or write", of a machine, a second time: what an opcode and a port access ask of it, and that nothing else counts.
use Rattle.std.specs.Prelude.{ℕ, ◌*◌, ◌/◌, ◌%◌, ◌≡◌, cond, eqb}
use Rattle.fields.specs.Fields.{bit}
use Rattle.region.specs.Region.{usable}
use Rattle.memory.specs.Memory.{Memories}
use Rattle.steps.specs.declared.Step.TheVariants.{PortRead, PortWrite}
use Rattle.settings.specs.Settings.{region_in}
use Rattle.config.specs.declared.Accessed.{Accessed}
use Rattle.config.specs.Ports.{port_read, port_write}
use Rattle.header.specs.Header.{level_number}
use Rattle.opcodes.specs.declared.Operation.{Operation}
use Rattle.opcodes.specs.Decode.{allowed}
use Rattle.machine.specs.declared.Machine.{Machine}
use Rattle.machine.specs.Machines.{settings_of}
use Rattle.machine.specs.Outcomes.{Outcome, gives, ends}
use Rattle.machine.specs.Steps.{valid, performed}

-- an operation is valid by level 0, USE_SMI, a usable region, SMAC unless the machine is inside, and its own rule
abbrev pub ValidByBits : Type 0
ValidByBits =
    (m : Machine) (o : Operation)
    → let s = settings_of m in
    bit (valid m o)
    ≡ bit (eqb (level_number m.registers.level) 0) * (s.ccr1 / 2 % 2) * bit (usable (region_in s)) * cond m.inside 1 (s.ccr1 / 4 % 2)
    * bit (allowed s m.inside o)

-- a port access goes by the configuration, a write by the side of the mode too, and moves the configuration alone
abbrev pub configured : Machine → Memories → Accessed → Outcome
configured m x p =
    ends
    (gives
    (record {
      registers = m.registers;
      segments = m.segments;
      halted = m.halted;
      inside = m.inside;
      latched = m.latched;
      config = p.config;
    })
    p.answer)
    x

abbrev pub PortsByConfig : Type 0
PortsByConfig =
    (m : Machine) (x : Memories) (port v : ℕ)
    → (performed m x (PortRead port) ≡ configured m x (port_read m.config port))
    × (performed m x (PortWrite port v) ≡ configured m x (port_write m.config port v m.inside))
