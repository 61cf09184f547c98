use Rattle.std.proofs.Common.{◌≡◌, ℕ, ◌++◌, ◌<◌, ◌≤◌, filter, get_or, length, take}
use Rattle.basket_sets.specs.Itemset.{has}
use Rattle.mine_apriori.proofs.intersection.push_shared.Given as goal

-- what is shared so far, and that the others before `next` are below all items that are left
abbrev pub invariant-loop-item : goal.invariant-loop-item
invariant-loop-item l = record {
  shared : l.shared.items ≡ l.initial.shared.items ++ filter (has l.others) (take l.item-index l.items);
  below : (k : ℕ) → k < l.next → k < length l.others → (j : ℕ) → l.item-index ≤ j → j < length l.items → get_or l.others k 0 < get_or l.items j 0;
}
