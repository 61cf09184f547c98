use Rattle.std.proofs.Common.{◌≡◌, ◌<◌, ◌+◌, ℕ, [], true, length, take, get_or}
use Rattle.mine_baskets.specs.ListBaskets.{repeats_last}
use Rattle.mine_pairs.specs.Runs.{HaveRunsFrom, lists_in}
use Rattle.mine_baskets.specs.Span.{baskets_at}
use Rattle.mine_pairs.proofs.rank_runs.runs_of_range.Given as goal

-- each rank of the last basket has a last run there
abbrev pub invariant-loop-basket : goal.invariant-loop-basket
invariant-loop-basket l = record {
  runs : HaveRunsFrom l.range.first l.range.count l.baskets.ranks.now (take l.basket-index (baskets_at l.baskets.ranks.now l.baskets.spans.now)) (lists_in l.of.items);
  again : (k n : ℕ) → k < length l.last → n < length (lists_in l.of.items) → get_or l.last k 0 ≡ l.range.first + n → repeats_last (baskets_at l.baskets.ranks.now (get_or (lists_in l.of.items) n [])) (take k l.last) ≡ true;
}
