use Rattle.std.proofs.Common.{length, arith}
use Rattle.std.proofs.lemmas.Grind.{common_steps}
use Rattle.basket_sets.proofs.theory.Tests.{all_below_at}
use Rattle.mine_phases.proofs.ranges.add_basket.Goals as goal

pub bounds-steps-rank : goal.bounds-steps-rank
bounds-steps-rank c = let here = all_below_at (length c.args.steps.now) c.args.ranks.now c.loop-index.index c.requires c.loop-index-test.true in grind (arith, common_steps)
