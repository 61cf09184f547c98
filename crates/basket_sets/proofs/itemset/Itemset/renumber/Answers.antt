use Rattle.std.proofs.Common.{sym, subst}
use Rattle.basket_sets.specs.Itemset.{IsRising}
use Rattle.basket_sets.proofs.theory.Rising.{rising-rises}
use Rattle.basket_sets.proofs.itemset.Itemset.renumber.Goals as goal

pub invariant_of-self : goal.invariant_of-self
invariant_of-self g c = subst IsRising (sym c.put_rising.ensures) (rising-rises c.truncate.new.self.items)
