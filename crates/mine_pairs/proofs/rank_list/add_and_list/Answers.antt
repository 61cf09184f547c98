use Rattle.std.proofs.Common.{◌<◌, length, get_or, eqb, arith}
use Rattle.std.proofs.lemmas.Grind.{common_steps}
use Rattle.mine_pairs.proofs.theory.SumSteps.{listed_more, with_more}
use Rattle.mine_pairs.proofs.theory.SumSteps.{one_at_most}
use Rattle.mine_pairs.proofs.rank_list.add_and_list.Goals as goal
use Rattle.basket_sets.proofs.theory.Tests.{all_below_at}

pub bounds-sums-rank : goal.bounds-sums-rank
bounds-sums-rank c = grind (arith, common_steps, all_below_at (length c.args.sums.now) c.args.basket.now c.loop-rank.rank-index c.requires.below c.loop-rank-test.true)

pub loop-rank-preserved : goal.loop-rank-preserved
loop-rank-preserved c =
    let count = length c.args.sums.now in
    let basket = c.args.basket.now in
    let i = c.loop-rank.rank-index in
    let rank = get_or basket i 0 in
    let sums = c.loop-rank.sums in
    let was = c.loop-rank.invariant in
    let here = all_below_at count basket i c.requires.below c.loop-rank-test.true in
    let inside : rank < length sums = omega (arith, here, c.loop-rank.auto.sums) in
    record {
      few = omega (arith, was.few, one_at_most (eqb (get_or sums rank 0) 0), c.from-end.ensures);
      sums = listed_more count sums c.loop-rank.ranks c.loop-rank.end rank c.args.weight c.from-end.result was.sums here (omega (arith, was.few, c.requires.room, c.loop-rank-test.true, c.loop-rank.auto.ranks)) c.from-end.ensures;
      added = with_more basket i c.args.weight c.args.sums.now sums c.requires.rises c.loop-rank-test.true inside c.loop-rank.auto.sums was.added;
    }
