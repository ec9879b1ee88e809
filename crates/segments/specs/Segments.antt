-- 01, "What the machine holds", "Opcode" and "Reset": the segment registers by their names. CS is held apart from the seven others, among the
-- registers that entry saves.
use Rattle.std.specs.Prelude.{Bool, true, false, [], ◌∷◌}
use Rattle.fields.specs.Fields.{number}
use Rattle.memory.specs.declared.Segment.{Segment}
use Rattle.memory.specs.Memory.{segment}
use Rattle.segments.specs.declared.SegmentName.{SegmentName}
use Rattle.segments.specs.declared.SegmentName.TheVariants.{Es, Cs, Ss, Ds, Fs, Gs, Ldtr, Tr}
use Rattle.segments.specs.declared.Segments.{Segments}

abbrev pub is_cs : SegmentName → Bool
is_cs Es = false
is_cs Cs = true
is_cs Ss = false
is_cs Ds = false
is_cs Fs = false
is_cs Gs = false
is_cs Ldtr = false
is_cs Tr = false

-- a segment register by its name, where CS is given
abbrev pub segment_named : Segments → Segment → SegmentName → Segment
segment_named s cs Es = s.es
segment_named s cs Cs = cs
segment_named s cs Ss = s.ss
segment_named s cs Ds = s.ds
segment_named s cs Fs = s.fs
segment_named s cs Gs = s.gs
segment_named s cs Ldtr = s.ldtr
segment_named s cs Tr = s.tr

abbrev pub segments : Segment → Segment → Segment → Segment → Segment → Segment → Segment → Segments
segments ds es fs gs ss ldtr tr = record { ds = ds; es = es; fs = fs; gs = gs; ss = ss; ldtr = ldtr; tr = tr }

-- the segments with another one at a name; CS is none of them
abbrev pub with_named : Segments → SegmentName → Segment → Segments
with_named s Es x = segments s.ds x s.fs s.gs s.ss s.ldtr s.tr
with_named s Cs x = s
with_named s Ss x = segments s.ds s.es s.fs s.gs x s.ldtr s.tr
with_named s Ds x = segments x s.es s.fs s.gs s.ss s.ldtr s.tr
with_named s Fs x = segments s.ds s.es x s.gs s.ss s.ldtr s.tr
with_named s Gs x = segments s.ds s.es s.fs x s.ss s.ldtr s.tr
with_named s Ldtr x = segments s.ds s.es s.fs s.gs s.ss x s.tr
with_named s Tr x = segments s.ds s.es s.fs s.gs s.ss s.ldtr x

-- after a reset: all alike, but LDTR and TR, which are all zero
abbrev pub reset_segments : Segments
reset_segments =
    let ordinary = segment 0 (number (0xff ∷ 0xff ∷ 0x00 ∷ 0x00 ∷ 0x00 ∷ 0x93 ∷ 0x00 ∷ 0x00 ∷ [])) in
    segments ordinary ordinary ordinary ordinary ordinary (segment 0 0) (segment 0 0)
