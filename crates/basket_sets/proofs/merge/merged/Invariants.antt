use Rattle.std.proofs.Common.{◌≡◌, ◌≤◌, ◌+◌, fold, map}
use Rattle.std.specs.Vec.Iter.{into_iter_items}
use Rattle.basket_sets.specs.Database.{MOST_WEIGHT, merged_of, with_basket}
use Rattle.basket_sets.specs.Merge.{as_weighted}
use Rattle.basket_sets.specs.Support.{total_of}
use Rattle.basket_sets.proofs.merge.merged.Given as goal

abbrev pub invariant-loop-weighted : goal.invariant-loop-weighted
invariant-loop-weighted l = record {
  can : (goal.iterator-loop-weighted).can_next l.weighted-iterator;
  ends : (goal.iterator-loop-weighted).is_finite l.weighted-iterator;
  whole : fold with_basket (map as_weighted l.weights.entries) (into_iter_items l.weighted-iterator) ≡ merged_of l.fn.baskets.items;
  light : total_of (map as_weighted l.weights.entries) + total_of (into_iter_items l.weighted-iterator) ≤ MOST_WEIGHT;
}
