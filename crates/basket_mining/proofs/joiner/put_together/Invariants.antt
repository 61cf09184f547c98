use Rattle.std.proofs.Common.{◌≡◌, ◌++◌, map}
use Rattle.std.specs.List.{flat_map}
use Rattle.std.specs.Vec.Iter.{into_iter_items}
use Rattle.basket_mining.proofs.joiner.put_together.Given as goal

abbrev pub invariant-loop-level : goal.invariant-loop-level
invariant-loop-level l = record {
  can : goal.iterator-loop-level.can_next l.level-iterator;
  ends : goal.iterator-loop-level.is_finite l.level-iterator;
  levels : l.levels.items ++ map (λ value. value.0) (into_iter_items l.level-iterator) ≡ map (λ value. value.0) l.fn.values.items;
  found : l.found ++ flat_map (λ value. value.1) (into_iter_items l.level-iterator) ≡ l.initial.found ++ flat_map (λ value. value.1) l.fn.values.items;
}
