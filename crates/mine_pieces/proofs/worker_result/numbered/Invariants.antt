use Rattle.std.proofs.Common.{◌≡◌, ◌≤◌, ◌+◌, ◌++◌, length, vec_capacity}
use Rattle.std.specs.List.{enumerate_from}
use Rattle.std.specs.Vec.Iter.{into_iter_items}
use Rattle.mine_pieces.proofs.worker_result.numbered.Given as goal

abbrev pub invariant-loop-seat : goal.invariant-loop-seat
invariant-loop-seat l = record {
  can : (goal.iterator-loop-seat).can_next l.seat-iterator;
  ends : (goal.iterator-loop-seat).is_finite l.seat-iterator;
  whole : l.workers.items ++ enumerate_from l.number (into_iter_items l.seat-iterator) ≡ enumerate_from 0 l.fn.seats.items;
  room : length l.fn.seats.items ≤ vec_capacity l.workers;
  all : l.number + length (into_iter_items l.seat-iterator) ≡ length l.fn.seats.items;
  number : l.number ≡ length l.workers.items;
}
