use Rattle.mine_baskets.specs.declared.words.TheConstants.{WORD_RANKS}
use Rattle.mine_baskets.proofs.word_baskets.bits_of_ranks.Goals as goal
use Rattle.basket_sets.proofs.theory.Tests.{all_below_at}

pub bit_of-bits-requires : goal.bit_of-bits-requires
bit_of-bits-requires c = all_below_at WORD_RANKS c.args.ranks.now c.loop-rank.rank-index c.requires c.loop-rank-test.true
