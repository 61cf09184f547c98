use Rattle.std.proofs.Common.{length}
use Rattle.mine_pairs.proofs.sums.with_sums.Goals as goal
use Rattle.basket_sets.proofs.theory.Tests.{all_below_at}

pub bounds-sums-rank : goal.bounds-sums-rank
bounds-sums-rank c = all_below_at (length c.args.sums.now) c.args.ranks.now c.loop-rank.rank-index c.requires c.loop-rank-test.true
