use Rattle.std.proofs.Common.{◌≡◌, length}
use Rattle.mine_baskets.proofs.covers.rank_counts.Given as goal

abbrev pub invariant-loop-rank : goal.invariant-loop-rank
invariant-loop-rank l = length l.counts.items ≡ l.count
