use Rattle.std.proofs.Common.{◌≡◌, ℕ, take, cond}
use Rattle.std.specs.BTreeMap.{get}
use Rattle.std.specs.Ordering.{nat_cmp}
use Rattle.basket_sets.specs.Itemset.{has}
use Rattle.basket_sets.specs.Slot.{slot_with}
use Rattle.basket_sets.proofs.counts.add_to_map.Given as goal

abbrev pub invariant-loop-item : goal.invariant-loop-item
invariant-loop-item l =
    (item : ℕ) → get nat_cmp l.supports item
    ≡ cond (has (take l.item-index l.items) item) (slot_with l.weight (get nat_cmp l.initial.supports item)) (get nat_cmp l.initial.supports item)
