-- 01, "Trace player": why the player stops where nothing is found in a trace.
use Rattle.std.specs.Prelude.{◌≡◌, [], ◌∷◌}
use Rattle.trace.specs.declared.Ending.{Ending}
use Rattle.trace.specs.declared.Ending.TheVariants as ending
use Rattle.lines.specs.declared.Reason.{Reason}
use Rattle.lines.specs.declared.Reason.TheVariants as why
use Rattle.lines.specs.Lines.{word_of}

abbrev pub reason_of : Ending → Reason
reason_of ending.End = why.End
reason_of ending.Torn = why.Torn
reason_of ending.Bad = why.Bad

-- the same by what is printed: "end", "torn" or "bad", and a newline
abbrev pub EndingsSaid : Type 0
EndingsSaid =
    (word_of (reason_of ending.End) ≡ 0x65 ∷ 0x6e ∷ 0x64 ∷ 0x0a ∷ [])
    × (word_of (reason_of ending.Torn) ≡ 0x74 ∷ 0x6f ∷ 0x72 ∷ 0x6e ∷ 0x0a ∷ [])
    × (word_of (reason_of ending.Bad) ≡ 0x62 ∷ 0x61 ∷ 0x64 ∷ 0x0a ∷ [])
