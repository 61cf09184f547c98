use Rattle.std.proofs.Common.{◌≡◌}
use Rattle.std.specs.Vec.Iter.{into_iter_items}
use Rattle.mine_pieces.specs.Placed.{HaveRoom, placed}
use Rattle.mine_pieces.specs.WorkerResult.{numbers_of}
use Rattle.mine_pieces.proofs.placed.put_all.Given as goal

abbrev pub invariant-loop-number : goal.invariant-loop-number
invariant-loop-number g l = record {
  can : (goal.iterator-loop-number g).can_next l.number-iterator;
  ends : (goal.iterator-loop-number g).is_finite l.number-iterator;
  room : HaveRoom l.collector (numbers_of (into_iter_items l.number-iterator));
  rest : placed l.collector (into_iter_items l.number-iterator) ≡ placed l.initial.collector l.fn.list.items;
}
