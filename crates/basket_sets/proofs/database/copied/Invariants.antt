use Rattle.std.proofs.Common.{◌≡◌, take}
use Rattle.basket_sets.proofs.database.copied.Given as goal

abbrev pub invariant-loop-weighted : goal.invariant-loop-weighted
invariant-loop-weighted l = l.copy.items ≡ take l.weighted-index l.baskets
