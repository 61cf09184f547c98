use Rattle.std.proofs.Common.{◌≡◌, ◌++◌}
use Rattle.std.specs.List.{flat_map}
use Rattle.std.specs.Vec.Iter.{into_iter_items}
use Rattle.basket_core.proofs.frequent.gathered.Given as goal

abbrev pub invariant-loop-class : goal.invariant-loop-class
invariant-loop-class l = record {
  can : goal.iterator-loop-class.can_next l.class-iterator;
  ends : goal.iterator-loop-class.is_finite l.class-iterator;
  whole : l.sets ++ flat_map (λ class. class) (into_iter_items l.class-iterator) ≡ flat_map (λ class. class) l.fn.classes.items;
}
