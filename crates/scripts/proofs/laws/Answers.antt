use Rattle.scripts.proofs.Reading.{unbounded, reads_on}
use Rattle.scripts.proofs.Formerly.{up_to_groups, same_as_formerly, one_wake_groupless}
use Rattle.scripts.proofs.Writing.{concatenates, written_out, one_wake_writable, counts_written, eight_levels, more_levels, every_count_written, groups_written}
use Rattle.scripts.proofs.laws.Goals as goal

pub returns : goal.returns
returns c = record {
  unbounded = unbounded;
  groups = up_to_groups;
  formerly = same_as_formerly;
  example = one_wake_groupless;
  concatenates = concatenates;
  written = written_out;
  writable = one_wake_writable;
  counts = counts_written;
  levels = eight_levels;
  reads_on = reads_on;
  more_levels = more_levels;
  every_count = every_count_written;
  in_groups = groups_written;
}
