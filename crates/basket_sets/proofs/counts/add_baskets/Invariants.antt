use Rattle.std.proofs.Common.{◌≤◌, ◌+◌, ◌++◌, ℕ, List, None, unwrap_or, take, get_or}
use Rattle.basket_sets.specs.declared.weighted.Weighted.{Weighted}
use Rattle.basket_sets.specs.Counts.{IsTable}
use Rattle.basket_sets.specs.Support.{total_of}
use Rattle.basket_sets.proofs.counts.add_baskets.Given as goal

abbrev pub invariant-loop-weighted : goal.invariant-loop-weighted
invariant-loop-weighted l = record {
  table : (before : List Weighted) → IsTable before l.initial.table → IsTable (before ++ take l.weighted-index l.baskets) l.table;
  bounded : (item : ℕ) → unwrap_or (get_or l.table item None) 0 ≤ unwrap_or (get_or l.initial.table item None) 0 + total_of (take l.weighted-index l.baskets);
}
