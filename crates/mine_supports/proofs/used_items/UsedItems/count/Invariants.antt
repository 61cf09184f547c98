use Rattle.std.proofs.Common.{◌≡◌, ◌≤◌, filter, length, take}
use Rattle.basket_sets.specs.Itemset.{has}
use Rattle.mine_supports.proofs.used_items.UsedItems.count.Given as goal

abbrev pub invariant-loop-item : goal.invariant-loop-item
invariant-loop-item l = record {
  counted : l.count ≡ length (filter (has l.self) (take l.item-index l.items));
  few : l.count ≤ l.item-index;
}
