use Rattle.std.proofs.Common.{◌≡◌, ◌-◌, length}
use Rattle.basket_sets.specs.Support.{items_of}
use Rattle.mine_apriori.proofs.levels.Levels.searched.Given as goal

abbrev pub invariant-loop-alloc : goal.invariant-loop-alloc
invariant-loop-alloc l = record {
  coding : l.levels.coding ≡ l.coded;
  limit : l.levels.limit ≡ l.limit;
}

abbrev pub decreases-loop-alloc : goal.decreases-loop-alloc
decreases-loop-alloc l = length (items_of l.coded.baskets) - l.levels.size
