use Rattle.std.proofs.Common.{length, ◌-◌, ◌≤◌, ◌++◌}
use Rattle.basket_rules.specs.Listed.{IsSorted}
use Rattle.basket_rules.specs.Search.{IsBetween}
use Rattle.basket_rules.proofs.search.find_near.Given as goal

abbrev pub invariant-loop-at : goal.invariant-loop-at
invariant-loop-at l = record {
  within : l.search.end ≤ length l.sets;
  between : IsSorted l.sets → IsBetween l.search.start l.search.end l.sets (l.front ++ l.rest);
}

abbrev pub decreases-loop-at : goal.decreases-loop-at
decreases-loop-at l = l.search.end - l.search.start
