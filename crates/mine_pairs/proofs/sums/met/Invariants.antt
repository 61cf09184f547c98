use Rattle.std.proofs.Common.{◌≡◌, filter, get_or, take}
use Rattle.mine_pairs.specs.Sums.{is_met}
use Rattle.mine_pairs.proofs.sums.met.Given as goal

abbrev pub invariant-loop-rank : goal.invariant-loop-rank
invariant-loop-rank l = l.kept.items ≡ filter (λ rank. is_met l.least (get_or l.sums rank 0)) (take l.rank-index l.found)
