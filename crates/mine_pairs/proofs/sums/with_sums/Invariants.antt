use Rattle.std.proofs.Common.{◌≡◌, map, get_or, take}
use Rattle.mine_pairs.proofs.sums.with_sums.Given as goal

abbrev pub invariant-loop-rank : goal.invariant-loop-rank
invariant-loop-rank l = l.pairs.items ≡ map (λ rank. (rank, get_or l.sums rank 0)) (take l.rank-index l.ranks)
