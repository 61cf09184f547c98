use Rattle.basket_lists.specs.Without.{AreIndexesWithout}
use Rattle.basket_lists.proofs.counted_sets.CountedSets.plain_without.Given as goal

abbrev pub invariant-loop-index : goal.invariant-loop-index
invariant-loop-index l = AreIndexesWithout l.self l.items l.index l.found
