use Rattle.std.proofs.Common.{◌≡◌, take}
use Rattle.basket_sets.specs.Support.{total_of}
use Rattle.basket_sets.proofs.database.weight_of.Given as goal

abbrev pub invariant-loop-weighted : goal.invariant-loop-weighted
invariant-loop-weighted l = l.weight ≡ total_of (take l.weighted-index l.baskets)
