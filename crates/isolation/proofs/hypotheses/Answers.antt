use Rattle.isolation.proofs.Tightness.{start_asked, no_reset_asked, up_to_entry_asked, last_is_last, through_entry_asked, whole_list}
use Rattle.isolation.proofs.hypotheses.Goals as goal

pub returns : goal.returns
returns c = record {
  start = start_asked;
  resets = no_reset_asked;
  entry = up_to_entry_asked;
  last = last_is_last;
  through = through_entry_asked;
  whole = whole_list;
}
