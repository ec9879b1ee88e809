use Rattle.replays.proofs.Written.{plays_written, written_examples}
use Rattle.replays.proofs.groups.Goals as goal

pub returns : goal.returns
returns c = record {
  written = plays_written;
  examples = written_examples _ _;
}
