use Rattle.std.proofs.Common.{◌≡◌, take}
use Rattle.mine_baskets.specs.Words.{rank_bits}
use Rattle.mine_baskets.proofs.word_baskets.bits_of_ranks.Given as goal

abbrev pub invariant-loop-rank : goal.invariant-loop-rank
invariant-loop-rank l = l.bits ≡ rank_bits (take l.rank-index l.ranks)
