use Rattle.std.proofs.Common.{◌≡◌, ◌≤◌, ◌++◌, Some, map, length, vec_capacity}
use Rattle.std.specs.Vec.Iter.{into_iter_items}
use Rattle.mine_round.proofs.collector.Collector.finish.Given as goal

abbrev pub invariant-loop-place : goal.invariant-loop-place
invariant-loop-place g l = record {
  can : (goal.iterator-loop-place g).can_next l.place-iterator;
  ends : (goal.iterator-loop-place g).is_finite l.place-iterator;
  whole : map Some l.values.items ++ into_iter_items l.place-iterator ≡ l.fn.self;
  room : length l.fn.self ≤ vec_capacity l.values;
}
