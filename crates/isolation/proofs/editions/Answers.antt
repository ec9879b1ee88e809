use Rattle.isolation.proofs.Edition.{edition_stays, lock_holds, no_service}
use Rattle.isolation.proofs.Common.{same_without_news, common_asked}
use Rattle.isolation.proofs.Examples.{later_examples, alike_example}
use Rattle.isolation.proofs.editions.Goals as goal

pub returns : goal.returns
returns c = record {
  stays = edition_stays;
  lock = lock_holds;
  service = no_service;
  same = same_without_news;
  common = common_asked;
  examples = later_examples;
  alike = alike_example;
}
