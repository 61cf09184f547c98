use Rattle.std.proofs.Common.{◌≡◌, ◌≤◌, ◌+◌, ◌++◌, length, map, vec_capacity}
use Rattle.std.specs.List.{sum}
use Rattle.std.specs.Vec.Iter.{into_iter_items}
use Rattle.mine_phases.proofs.joined.joined.Given as goal

abbrev pub invariant-loop-class : goal.invariant-loop-class
invariant-loop-class l = record {
  can : (goal.iterator-loop-class).can_next l.class-iterator;
  ends : (goal.iterator-loop-class).is_finite l.class-iterator;
  classes : l.classes.items ++ map (λ class. class.0) (into_iter_items l.class-iterator) ≡ map (λ class. class.0) l.fn.mined.items;
  room : length l.classes.items + length (into_iter_items l.class-iterator) ≤ vec_capacity l.classes;
  work : l.work + sum (map (λ class. class.1) (into_iter_items l.class-iterator)) ≡ sum (map (λ class. class.1) l.fn.mined.items);
}
