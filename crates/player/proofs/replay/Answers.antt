use Prim.Native.Nat.{ℕ}
use lib.ListN.{length-replicate}
use Rattle.player.proofs.Replaying.{writes_text}
use Rattle.player.proofs.replay.Goals as goal

pub returns : goal.returns
returns c = let w = c.play-played.ensures in
    record {
      prints = writes_text c.args.trace.now _ _ (length-replicate {A = ℕ} 10000 0) w c.write.ensures;
      leaves = w.leaves.memory_is;
    }
