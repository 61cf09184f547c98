use Rattle.std.proofs.Common.{◌≡◌, ℕ, take, None, cond, get_or}
use Rattle.basket_sets.specs.Itemset.{has}
use Rattle.basket_sets.specs.Slot.{slot_with}
use Rattle.basket_sets.proofs.counts.add_to_table.Given as goal

abbrev pub invariant-loop-item : goal.invariant-loop-item
invariant-loop-item l =
    (number : ℕ) → get_or l.table number None
    ≡ cond (has (take l.item-index l.items) number) (slot_with l.weight (get_or l.initial.table number None)) (get_or l.initial.table number None)
