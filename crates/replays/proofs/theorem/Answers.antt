-- The theorem holds, and has an example. Assumes nothing.
use Rattle.replays.proofs.Lines.{same_lines, lines_example}
use Rattle.replays.proofs.theorem.Goals as goal

pub returns : goal.returns
returns c = record {
  same = same_lines;
  example = lines_example;
}
