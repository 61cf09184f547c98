use Rattle.basket_rules.proofs.theory.Consistency.{count_of_missing, counted_there}
use Rattle.basket_rules.proofs.supports.searched_count.Goals as goal

pub returns-in-Some : goal.returns-in-Some
returns-in-Some c = counted_there c.args.sets.now _ c.in-Some.at c.count.result c.in-Some.ensures.bound c.in-Some.ensures.found c.count.ensures

pub returns-in-None : goal.returns-in-None
returns-in-None c = λ up. count_of_missing c.args.sets.now c.args.items.now up c.in-None.ensures.missing
