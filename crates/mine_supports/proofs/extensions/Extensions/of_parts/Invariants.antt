use Rattle.std.proofs.Common.{◌≡◌, ◌++◌}
use Rattle.std.specs.List.{flat_map}
use Rattle.std.specs.Vec.Iter.{into_iter_items}
use Rattle.mine_supports.proofs.extensions.Extensions.of_parts.Given as goal

abbrev pub invariant-loop-part : goal.invariant-loop-part
invariant-loop-part l = record {
  can : goal.iterator-loop-part.can_next l.part-iterator;
  ends : goal.iterator-loop-part.is_finite l.part-iterator;
  whole : l.all ++ flat_map (λ part. part) (into_iter_items l.part-iterator) ≡ flat_map (λ part. part) l.fn.parts.items;
}
