-- 01, "What the machine holds" and "Reset", and 02, request 1: the machine, the machine with one thing of it changed, and after a reset.
use Rattle.std.specs.Prelude.{Bool, true, false, cond, [], ◌∷◌}
use Rattle.fields.specs.Fields.{number_by, number}
use Rattle.memory.specs.declared.Segment.{Segment}
use Rattle.memory.specs.Memory.{segment}
use Rattle.settings.specs.declared.Edition.{Edition}
use Rattle.settings.specs.declared.Settings.{Settings}
use Rattle.config.specs.declared.Config.{Config}
use Rattle.header.specs.declared.Registers.{Registers}
use Rattle.header.specs.declared.Level.TheVariants.{Zero}
use Rattle.segments.specs.declared.SegmentName.{SegmentName}
use Rattle.segments.specs.declared.Segments.{Segments}
use Rattle.segments.specs.Segments.{is_cs, segment_named, with_named, reset_segments}
use Rattle.machine.specs.declared.Machine.{Machine}

-- a machine of its parts; the flags say whether it is halted, inside management mode, and has an SMI latched
abbrev pub machine : Registers → Segments → Bool → Bool → Bool → Config → Machine
machine r s halted inside latched c =
    record { registers = r; segments = s; halted = halted; inside = inside; latched = latched; config = c }

abbrev pub with_registers : Machine → Registers → Machine
with_registers m r = machine r m.segments m.halted m.inside m.latched m.config

abbrev pub with_halted : Machine → Bool → Machine
with_halted m b = machine m.registers m.segments b m.inside m.latched m.config

abbrev pub with_latched : Machine → Bool → Machine
with_latched m b = machine m.registers m.segments m.halted m.inside b m.config

abbrev pub with_config : Machine → Config → Machine
with_config m c = machine m.registers m.segments m.halted m.inside m.latched c

abbrev pub with_settings : Machine → Settings → Machine
with_settings m s = with_config m (record { settings = s; index = m.config.index; armed = m.config.armed })

abbrev pub with_segments : Machine → Segments → Machine
with_segments m s = machine m.registers s m.halted m.inside m.latched m.config

-- the registers with another CS
abbrev pub with_cs : Registers → Segment → Registers
with_cs r cs = record { eip = r.eip; eflags = r.eflags; cr0 = r.cr0; dr7 = r.dr7; cs = cs; level = r.level; writable = r.writable }

abbrev pub settings_of : Machine → Settings
settings_of m = m.config.settings

abbrev pub edition_of : Machine → Edition
edition_of m = (settings_of m).edition

-- a segment register by its name
abbrev pub segment_in : Machine → SegmentName → Segment
segment_in m name = segment_named m.segments m.registers.cs name

abbrev pub with_segment : Machine → SegmentName → Segment → Machine
with_segment m name x =
    cond (is_cs name) (with_registers m (with_cs m.registers x)) (with_segments m (with_named m.segments name x))

-- the registers after a reset
abbrev pub reset_registers : Registers
reset_registers = record {
  eip = 0xfff0;
  eflags = 2;
  cr0 = 0x60000010;
  dr7 = 0x400;
  cs = segment 0xf000 (number (0xff ∷ 0xff ∷ 0x00 ∷ 0x00 ∷ 0xff ∷ 0x93 ∷ 0x00 ∷ 0xff ∷ []));
  level = Zero;
  writable = true;
}

-- the settings: every stored byte is zero, and the edition stays (02, request 1)
abbrev pub reset_settings : Edition → Settings
reset_settings e = record {
  edition = e;
  ccr1 = 0;
  ccr3 = 0;
  high = 0;
  middle = 0;
  low = 0;
  ccr6 = 0;
  smhr0 = 0;
  smhr1 = 0;
  smhr2 = 0;
  smhr3 = 0;
}

-- the whole machine of an edition: flags and index are zero, and nothing is armed
unfoldable pub reset_machine : Edition → Machine
unfolding number_by
reset_machine e =
    machine reset_registers reset_segments false false false (record { settings = reset_settings e; index = 0; armed = false })
