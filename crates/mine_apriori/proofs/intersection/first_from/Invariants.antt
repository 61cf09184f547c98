use Rattle.std.proofs.Common.{ℕ, ◌-◌, ◌<◌, ◌≤◌, get_or, length}
use Rattle.mine_apriori.proofs.intersection.first_from.Given as goal

abbrev pub invariant-loop-index : goal.invariant-loop-index
invariant-loop-index l = record {
  later : l.start ≤ l.index;
  below : (k : ℕ) → l.start ≤ k → k < l.index → get_or l.items k 0 < l.least;
}

abbrev pub decreases-loop-index : goal.decreases-loop-index
decreases-loop-index l = length l.items - l.index
