use Rattle.std.proofs.Common.{◌≡◌, ◌++◌, length, drop}
use Rattle.lines.specs.Lines.{hex_of}
use Rattle.lines.proofs.hex.Given as goal

abbrev pub invariant-loop-i : goal.invariant-loop-i
invariant-loop-i l = (length l.digits ≡ 8) × (hex_of l.i l.left ++ drop l.i l.digits ≡ hex_of 8 l.value)
