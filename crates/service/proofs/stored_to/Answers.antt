use Rattle.service.proofs.Storing.{left_there, stores_as_listed, only_stored, kept_unless_stored, kept_where_quiet, unchanged_unless_stored}
use Rattle.service.proofs.stored_to.Goals as goal

pub returns : goal.returns
returns c = record {
  left = left_there;
  listed = stores_as_listed;
  stored = only_stored;
  kept = kept_unless_stored;
  quiet = kept_where_quiet;
  unchanged = unchanged_unless_stored;
}
