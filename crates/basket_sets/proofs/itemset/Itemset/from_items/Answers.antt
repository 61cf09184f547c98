use Rattle.std.proofs.Common.{sym, subst}
use Rattle.basket_sets.specs.Itemset.{IsRising}
use Rattle.basket_sets.proofs.theory.Rising.{rising-rises}
use Rattle.basket_sets.proofs.itemset.Itemset.from_items.Goals as goal

pub invariant_of-result : goal.invariant_of-result
invariant_of-result c = subst IsRising (sym c.put_rising.ensures) (rising-rises c.in_ok-items.items.items)
