use Rattle.std.proofs.Common.{◌≡◌, ◌≤◌, ◌+◌, ◌++◌, Ok, None, fold, length, map, vec_capacity}
use Rattle.std.specs.Vec.Iter.{into_iter_items}
use Rattle.mine_pieces.specs.WorkerResult.{fault_after, fault_of}
use Rattle.mine_pieces.proofs.worker_result.parted.Given as goal

abbrev pub invariant-loop-share : goal.invariant-loop-share
invariant-loop-share g l = record {
  can : (goal.iterator-loop-share g).can_next l.share-iterator;
  ends : (goal.iterator-loop-share g).is_finite l.share-iterator;
  seats : l.seats.items ++ map (λ share. share.seat) (into_iter_items l.share-iterator) ≡ map (λ share. share.seat) l.fn.shares.items;
  lists : l.fault ≡ None → map Ok l.lists.items ++ map (λ share. share.values) (into_iter_items l.share-iterator) ≡ map (λ share. share.values) l.fn.shares.items;
  fault : fold fault_after l.fault (map (λ share. share.values) (into_iter_items l.share-iterator)) ≡ fault_of (map (λ share. share.values) l.fn.shares.items);
  seat_room : length l.seats.items + length (into_iter_items l.share-iterator) ≤ vec_capacity l.seats;
  list_room : length l.lists.items + length (into_iter_items l.share-iterator) ≤ vec_capacity l.lists;
}
