use Rattle.std.proofs.Common.{◌≡◌}
use Rattle.mine_pairs.specs.Pairs.{lists_of, pairs_by_greater}
use Rattle.mine_pairs.proofs.pairs.pairs_by_runs.Given as goal

abbrev pub invariant-loop-rank : goal.invariant-loop-rank
invariant-loop-rank l = record {
  sums : l.sums ≡ l.runs.ranks;
  lists : lists_of l.lists.items ≡ pairs_by_greater l.runs.baskets l.least l.rank;
}
