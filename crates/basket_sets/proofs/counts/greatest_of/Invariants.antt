use Rattle.std.proofs.Common.{◌+◌, take}
use Rattle.basket_sets.specs.Counts.{AllBelow}
use Rattle.basket_sets.proofs.counts.greatest_of.Given as goal

abbrev pub invariant-loop-number : goal.invariant-loop-number
invariant-loop-number l = AllBelow (l.greatest + 1) (take l.number-index l.numbers)
