use Rattle.player.proofs.Playing.{plays}
use Rattle.player.proofs.Walking.{trace_fit, trace_once}
use borrow.Author.Rules.{rules}
use Rattle.player.proofs.play.Goals as goal

pub walk-requires : goal.walk-requires
walk-requires c = record {
  fit = trace_fit _;
  done_le_record_limit = search rules;
}

pub returns : goal.returns
returns c =
    let trace = c.args.trace.now in
    plays trace _ _ _ _ _ _ (rw (trace_once trace) at c.walk.ensures)
