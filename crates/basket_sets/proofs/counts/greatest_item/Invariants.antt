use Rattle.std.proofs.Common.{◌+◌, take}
use Rattle.basket_sets.specs.Counts.{AllBelow}
use Rattle.basket_sets.specs.Support.{all_items}
use Rattle.basket_sets.proofs.counts.greatest_item.Given as goal

abbrev pub invariant-loop-weighted : goal.invariant-loop-weighted
invariant-loop-weighted l = AllBelow (l.greatest + 1) (all_items (take l.weighted-index l.baskets))
