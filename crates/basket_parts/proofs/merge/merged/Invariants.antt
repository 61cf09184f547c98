use Rattle.std.proofs.Common.{◌≡◌, ◌≤◌, ◌++◌, All}
use Rattle.std.specs.Vec.Iter.{into_iter_items}
use Rattle.basket_sets.specs.Database.{MOST_WEIGHT}
use Rattle.basket_parts.specs.Merge.{IsLight, merged, merged_from}
use Rattle.basket_parts.proofs.merge.merged.Given as goal

abbrev pub invariant-loop-line : goal.invariant-loop-line
invariant-loop-line l = record {
  can : (goal.iterator-loop-line).can_next l.line-iterator;
  ends : (goal.iterator-loop-line).is_finite l.line-iterator;
  whole : l.list.items ++ merged_from l.kept (into_iter_items l.line-iterator) ≡ merged l.fn.lines.items;
  light : All IsLight l.list.items;
  kept : l.kept.count ≤ MOST_WEIGHT;
}
