use Rattle.std.proofs.Common.{length}
use Rattle.mine_conditional.proofs.bit_table.bits_of.Goals as goal
use Rattle.basket_sets.proofs.theory.Tests.{all_below_at}

pub bounds-of-rank : goal.bounds-of-rank
bounds-of-rank c = all_below_at (length c.args.of.now) c.args.basket.now c.loop-rank.rank-index c.requires c.loop-rank-test.true
