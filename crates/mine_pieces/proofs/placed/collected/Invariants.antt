use Rattle.std.proofs.Common.{◌≡◌, None, replicate}
use Rattle.std.specs.List.{flat_map}
use Rattle.std.specs.Vec.Iter.{into_iter_items}
use Rattle.mine_pieces.specs.Placed.{placed}
use Rattle.mine_pieces.specs.WorkerResult.{numbers_of}
use Rattle.mine_pieces.proofs.theory.Placing.{AreAll}
use Rattle.mine_pieces.proofs.placed.collected.Given as goal

abbrev pub invariant-loop-list : goal.invariant-loop-list
invariant-loop-list g l = record {
  can : (goal.iterator-loop-list g).can_next l.list-iterator;
  ends : (goal.iterator-loop-list g).is_finite l.list-iterator;
  all : AreAll l.collector (flat_map (λ list. numbers_of list.items) (into_iter_items l.list-iterator));
  rest : placed l.collector (flat_map (λ list. list.items) (into_iter_items l.list-iterator)) ≡ placed (replicate l.fn.count None) (flat_map (λ list. list.items) l.fn.lists.items);
}
