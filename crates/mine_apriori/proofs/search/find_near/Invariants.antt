use Rattle.std.proofs.Common.{ℕ, length, get_or, [], ◌-◌, ◌<◌, ◌≤◌, ◌++◌}
use Rattle.mine_apriori.proofs.SearchLemmas.{IsBefore}
use Rattle.mine_apriori.proofs.search.find_near.Given as goal

abbrev pub invariant-loop-at : goal.invariant-loop-at
invariant-loop-at l = record {
  begun : l.search.start ≤ length l.sets;
  within : l.search.end ≤ length l.sets;
  smaller : (k : ℕ) → k < l.search.start → IsBefore (get_or l.sets k []) (l.front ++ l.rest);
  greater : (k : ℕ) → l.search.end ≤ k → k < length l.sets → IsBefore (l.front ++ l.rest) (get_or l.sets k []);
}

abbrev pub decreases-loop-at : goal.decreases-loop-at
decreases-loop-at l = l.search.end - l.search.start
