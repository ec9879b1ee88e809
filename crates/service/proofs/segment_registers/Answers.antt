use Rattle.service.proofs.Asked.{completes_asked, untouched_asked, put_back_asked, by_value_asked, by_value, segments_stay, all_segments, all_back}
use Rattle.service.proofs.segment_registers.Goals as goal

pub returns : goal.returns
returns c = record {
  completes = completes_asked;
  untouched = untouched_asked;
  asked = put_back_asked;
  value = by_value_asked;
  steps = by_value;
  stay = segments_stay;
  segments = all_segments;
  all = all_back;
}
