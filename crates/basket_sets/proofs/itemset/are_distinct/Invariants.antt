use Rattle.std.proofs.Common.{◌≡◌, ◌<◌, ℕ, false, get_or, take}
use Rattle.basket_sets.specs.Itemset.{has}
use Rattle.basket_sets.proofs.itemset.are_distinct.Given as goal

abbrev pub invariant-loop-index : goal.invariant-loop-index
invariant-loop-index l = (earlier : ℕ) → earlier < l.index → has (take earlier l.numbers) (get_or l.numbers earlier 0) ≡ false
