-- The widths of a machine's numbers (01, "What the machine holds"), which theorems ask for. Every machine of the code's own type has them.
use Rattle.std.specs.Prelude.{◌<◌, ◌^◌}
use Rattle.memory.specs.declared.Segment.{Segment}
use Rattle.settings_laws.specs.Locked.{SettingsFit}
use Rattle.header.specs.ReadBack.{RegistersFit}
use Rattle.segments.specs.declared.Segments.{Segments}
use Rattle.machine.specs.declared.Machine.{Machine}

pub record SegmentFits (s : Segment) : Type 0 where
  pub selector : s.selector < 2 ^ 16
  pub descriptor : s.descriptor < 2 ^ 64

pub record SegmentsFit (s : Segments) : Type 0 where
  pub ds : SegmentFits s.ds
  pub es : SegmentFits s.es
  pub fs : SegmentFits s.fs
  pub gs : SegmentFits s.gs
  pub ss : SegmentFits s.ss
  pub ldtr : SegmentFits s.ldtr
  pub tr : SegmentFits s.tr

pub record MachineFits (m : Machine) : Type 0 where
  pub registers : RegistersFit m.registers
  pub segments : SegmentsFit m.segments
  pub settings : SettingsFit m.config.settings
  pub index : m.config.index < 2 ^ 8
