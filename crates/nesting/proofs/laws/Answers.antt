use Rattle.nesting.proofs.Moving.{only_n_determines, bits_asked, bits_examples, only_n_moves, nothing_moves, last_moves}
use Rattle.nesting.proofs.laws.Goals as goal

pub returns : goal.returns
returns c = record {
  determined = only_n_determines;
  asked = bits_asked;
  examples = bits_examples;
  only = only_n_moves;
  nothing = nothing_moves;
  last = last_moves;
}
