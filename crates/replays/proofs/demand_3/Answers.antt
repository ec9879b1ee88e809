use Rattle.replays.proofs.Texts.{through_entered_asked}
use Rattle.replays.proofs.After.{alike_within, same_texts, goes_on, same_after}
use Rattle.replays.proofs.demand_3.Goals as goal

pub returns : goal.returns
returns c = record {
  through = through_entered_asked;
  alike = alike_within;
  texts = same_texts;
  on = goes_on;
  after = same_after;
}
