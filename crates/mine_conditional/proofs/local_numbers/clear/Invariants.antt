use Rattle.std.proofs.Common.{◌≡◌, ℕ, true, take, get_or}
use Rattle.basket_sets.specs.Itemset.{has}
use Rattle.mine_conditional.proofs.local_numbers.clear.Given as goal

abbrev pub invariant-loop-rank : goal.invariant-loop-rank
invariant-loop-rank g l = record {
  done : (rank : ℕ) → has (take l.rank-index l.kept) rank ≡ true → get_or l.table rank l.none ≡ l.none;
  none : (rank : ℕ) → get_or l.initial.table rank l.none ≡ l.none → get_or l.table rank l.none ≡ l.none;
}
