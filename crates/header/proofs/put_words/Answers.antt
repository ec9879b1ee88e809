use Rattle.std.proofs.Common.{◌∙◌, length, ◌≤◌, arith}
use mathlib.Core.List.{flat_map}
use lib.ListN.{drop_of_length-le}
use Rattle.header.proofs.Storing.{turn}
use Rattle.header.proofs.put_words.Goals as goal

pub loop-i-preserved : goal.loop-i-preserved
loop-i-preserved c = let l = c.loop-i in record {
  kept = c.store_at.auto.s ∙ l.invariant.kept;
  left = turn l.area c.store_at.new.s _ c.args.words.now c.args.at l.i (omega arith) c.store_at.ensures l.invariant.left;
}

pub returns : goal.returns
unfolding flat_map
returns c =
    let h : length c.args.words.now ≤ c.loop-i.i = omega arith in
    rw (drop_of_length-le c.args.words.now h) at c.loop-i.invariant.left
