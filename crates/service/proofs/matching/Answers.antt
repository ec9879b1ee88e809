use Rattle.service.proofs.Asked.{matching_asked, service_asked, every_entry, matches_one}
use Rattle.service.proofs.matching.Goals as goal

pub returns : goal.returns
returns c = record {
  asked = matching_asked;
  service = service_asked;
  every = every_entry;
  one = matches_one;
}
