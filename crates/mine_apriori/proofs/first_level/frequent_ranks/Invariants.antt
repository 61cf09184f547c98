use Rattle.std.proofs.Common.{◌≡◌, map, take}
use Rattle.mine_apriori.proofs.first_level.frequent_ranks.Given as goal

abbrev pub invariant-loop-rank : goal.invariant-loop-rank
invariant-loop-rank l = record {
  ranks : l.ranks.items ≡ map (λ entry. entry.0) (take l.rank-index l.rank-items);
  counts : l.counts.items ≡ map (λ entry. entry.1) (take l.rank-index l.rank-items);
}
