use Rattle.std.proofs.Common.{◌≡◌, ℕ, ◌+◌, ◌<◌, cond, get_or, length, take}
use Rattle.basket_sets.specs.Itemset.{has}
use Rattle.mine_supports.proofs.sums.add_weight.Given as goal

abbrev pub invariant-loop-item : goal.invariant-loop-item
invariant-loop-item l = (item : ℕ) → item < length l.initial.sums → get_or l.sums item 0 ≡ get_or l.initial.sums item 0 + cond (has (take l.item-index l.items) item) l.weight 0
