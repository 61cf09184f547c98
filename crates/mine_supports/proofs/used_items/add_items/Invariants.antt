use Rattle.std.proofs.Common.{◌≡◌, ℕ, true, take}
use Rattle.basket_sets.specs.Itemset.{has}
use Rattle.mine_supports.specs.UsedItems.{AreMarked, AreUsed}
use Rattle.mine_supports.proofs.used_items.add_items.Given as goal

abbrev pub invariant-loop-set : goal.invariant-loop-set
invariant-loop-set l = record {
  marked : AreMarked l.are_added.items l.items.items;
  used : AreUsed (take l.set-index l.sets) l.items.items;
  more : (item : ℕ) → has l.initial.items.items item ≡ true → has l.items.items item ≡ true;
}
