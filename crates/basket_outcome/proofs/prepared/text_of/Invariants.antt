use Rattle.std.proofs.Common.{◌≡◌, ◌++◌}
use Rattle.std.specs.Vec.Iter.{into_iter_items}
use Rattle.basket_report.specs.Bytes.{joined}
use Rattle.basket_outcome.proofs.prepared.text_of.Given as goal

abbrev pub invariant-loop-text : goal.invariant-loop-text
invariant-loop-text l = record {
  can : goal.iterator-loop-text.can_next l.text-iterator;
  ends : goal.iterator-loop-text.is_finite l.text-iterator;
  so : l.all.items ++ joined (into_iter_items l.text-iterator) ≡ joined l.fn.texts.items;
}
