use Rattle.std.proofs.Common.{◌≡◌, ℕ, true, take}
use Rattle.basket_sets.specs.Itemset.{has}
use Rattle.mine_supports.specs.UsedItems.{AreMarked}
use Rattle.mine_supports.proofs.used_items.add_new.Given as goal

abbrev pub invariant-loop-item : goal.invariant-loop-item
invariant-loop-item l = record {
  marked : AreMarked l.are_added l.items.items;
  set : (item : ℕ) → has (take l.item-index l.set) item ≡ true → has l.items.items item ≡ true;
  more : (item : ℕ) → has l.initial.items.items item ≡ true → has l.items.items item ≡ true;
}
