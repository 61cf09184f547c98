use Rattle.std.proofs.Common.{◌≡◌, fold}
use Rattle.std.specs.Vec.Iter.{into_iter_items}
use Rattle.mine_sets.specs.Asked.{asked_of, with_set}
use Rattle.mine_sets.proofs.asked.distinct_sets.Given as goal

abbrev pub invariant-loop-set : goal.invariant-loop-set
invariant-loop-set g l = record {
  can : (goal.iterator-loop-set g).can_next l.set-iterator;
  ends : (goal.iterator-loop-set g).is_finite l.set-iterator;
  whole : fold with_set l.distinct.keys (into_iter_items l.set-iterator) ≡ asked_of l.fn.sets.items;
}
