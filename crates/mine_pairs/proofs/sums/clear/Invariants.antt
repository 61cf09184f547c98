use Rattle.std.proofs.Common.{◌≡◌, ℕ, true, take, get_or}
use Rattle.basket_sets.specs.Itemset.{has}
use Rattle.mine_pairs.proofs.sums.clear.Given as goal

abbrev pub invariant-loop-rank : goal.invariant-loop-rank
invariant-loop-rank l = record {
  done : (rank : ℕ) → has (take l.rank-index l.rank-items) rank ≡ true → get_or l.sums rank 0 ≡ 0;
  zero : (rank : ℕ) → get_or l.initial.sums rank 0 ≡ 0 → get_or l.sums rank 0 ≡ 0;
}
