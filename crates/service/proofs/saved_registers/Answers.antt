use Rattle.service.proofs.Asked.{header_kept_asked, no_mark_determines, next_recorded, words_by_bytes, registers_settled, no_mark_at_once}
use Rattle.service.proofs.saved_registers.Goals as goal

pub returns : goal.returns
returns c = record {
  kept = header_kept_asked;
  mark = no_mark_determines;
  next = next_recorded;
  words = words_by_bytes;
  settled = registers_settled;
  once = no_mark_at_once;
}
