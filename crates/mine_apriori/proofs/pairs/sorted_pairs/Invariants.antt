use Rattle.std.proofs.Common.{◌≡◌, ◌++◌, map, take}
use Rattle.mine_apriori.proofs.PairLemmas.{pair_of, pair_with, sets_below}
use Rattle.mine_apriori.proofs.pairs.sorted_pairs.Given as goal

abbrev pub invariant-loop-rank : goal.invariant-loop-rank
invariant-loop-rank l = l.pairs.items ≡ map (pair_of l.coded.baskets) (sets_below l.coded l.rank)

abbrev pub invariant-loop-lesser : goal.invariant-loop-lesser
invariant-loop-lesser l = l.pairs.items ≡ l.initial.pairs.items ++ map (pair_with l.rank) (take l.lesser-index l.lesser-items)
