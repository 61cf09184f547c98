use Rattle.std.proofs.Common.{length, sym, subst}
use Rattle.std.specs.List.{refill}
use Rattle.basket_sets.specs.Itemset.{IsRising}
use Rattle.basket_sets.proofs.theory.Rising.{rising-rises}
use Rattle.basket_sets.proofs.itemset.Itemset.rename.Goals as goal

pub invariant_of-self : goal.invariant_of-self
invariant_of-self c = subst IsRising (sym c.put_rising.ensures) (rising-rises (refill (length c.self.inside.items.items) c.self.inside.items.items c.rename.new.numbers))
