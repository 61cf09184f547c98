use Rattle.std.proofs.Common.{length, arith}
use Rattle.std.proofs.lemmas.Grind.{common_steps}
use Rattle.basket_sets.proofs.theory.Tests.{all_below_at}
use Rattle.mine_pairs.proofs.theory.SumSteps.{with_more}
use Rattle.mine_pairs.proofs.triangle.count_below.Goals as goal

pub bounds-row-rank : goal.bounds-row-rank
bounds-row-rank c = grind (arith, common_steps, all_below_at (length c.args.row.now) c.args.ranks.now c.loop-rank.rank-index c.requires.below c.loop-rank-test.true)

pub loop-rank-preserved : goal.loop-rank-preserved
loop-rank-preserved c =
    let here = all_below_at (length c.args.row.now) c.args.ranks.now c.loop-rank.rank-index c.requires.below c.loop-rank-test.true in
    with_more c.args.ranks.now c.loop-rank.rank-index c.args.weight c.args.row.now c.loop-rank.row c.requires.rises c.loop-rank-test.true
    (omega (arith, here, c.loop-rank.auto.row)) c.loop-rank.auto.row c.loop-rank.invariant
