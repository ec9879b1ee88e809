use Rattle.trace.proofs.Finding.{passed_record}
use Rattle.trace.proofs.pass.Goals as goal

pub returns : goal.returns
returns c = passed_record _ _ _ c.in_ok-kind.ensures.frame c.if-kind-eq-GROUP.false _ c.in_ok-try_from.ensures
