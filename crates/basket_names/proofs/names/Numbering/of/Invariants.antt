use Rattle.std.proofs.Common.{◌≡◌, map, fold}
use Rattle.std.specs.String.{string_bytes}
use Rattle.std.specs.Vec.Iter.{into_iter_items}
use Rattle.basket_names.specs.Names.{in_order, with_name}
use Rattle.basket_names.proofs.names.Numbering.of.Given as goal

abbrev pub invariant-loop-name : goal.invariant-loop-name
invariant-loop-name l = record {
  can : (goal.iterator-loop-name).can_next l.name-iterator;
  ends : (goal.iterator-loop-name).is_finite l.name-iterator;
  whole : fold with_name (map string_bytes l.names.keys) (map string_bytes (into_iter_items l.name-iterator)) ≡ in_order l.fn.known;
}
