use native.Mathlib.Omega.{arith}
use Rattle.player.proofs.Replaying.{prints_long, prints_text}
use Rattle.player.proofs.output.Goals as goal

pub returns-then-input-gt65536 : goal.returns-then-input-gt65536
returns-then-input-gt65536 c = prints_long _ _ (omega arith) c.write_long.ensures

pub returns : goal.returns
returns c =
    prints_text _ _ (omega arith) c.initial.ensures c.replay.ensures.prints
