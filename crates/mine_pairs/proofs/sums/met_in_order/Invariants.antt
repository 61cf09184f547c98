use Rattle.std.proofs.Common.{◌≡◌, get_or, map}
use Rattle.std.specs.List.{filter, range_with_len}
use Rattle.mine_pairs.specs.Sums.{is_met}
use Rattle.mine_pairs.proofs.sums.met_in_order.Given as goal

abbrev pub invariant-loop-rank : goal.invariant-loop-rank
invariant-loop-rank l = l.pairs.items ≡ map (λ rank. (rank, get_or l.sums rank 0)) (filter (λ rank. is_met l.least (get_or l.sums rank 0)) (range_with_len 0 l.rank))
