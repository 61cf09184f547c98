use Rattle.std.proofs.Common.{◌≡◌, ◌-◌, length}
use Rattle.basket_sets.specs.Support.{items_of}
use Rattle.basket_mining.proofs.apriori.apriori_shared.Given as goal

abbrev pub invariant-loop-joiner : goal.invariant-loop-joiner
invariant-loop-joiner g l = record {
  coding : l.levels.coding ≡ l.coded;
  limit : l.levels.limit ≡ l.limit;
}

abbrev pub decreases-loop-joiner : goal.decreases-loop-joiner
decreases-loop-joiner g l = length (items_of l.coded.baskets) - l.levels.size
