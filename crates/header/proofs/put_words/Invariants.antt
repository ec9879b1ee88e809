use lib.Seq.{sets}
use lib.ListN.{length, drop}
use Prim.Native.Nat.{◌+◌, ◌*◌}
use mathlib.Core.Path.{◌≡◌}
use Rattle.header.specs.Header.{words_bytes}
use Rattle.header.proofs.put_words.Given as goal

abbrev pub invariant-loop-i : goal.invariant-loop-i
invariant-loop-i l = record {
  kept : length l.area ≡ length l.initial.area;
  left : sets l.area (l.at + 4 * l.i) (words_bytes (drop l.i l.words)) ≡ sets l.initial.area l.at (words_bytes l.words);
}
