use Rattle.std.proofs.Common.{arith}
use Rattle.std.proofs.lemmas.Grind.{common_steps}
use Rattle.basket_csv.proofs.BasketLemmas.{no_fault, before_names}
use Rattle.basket_csv.proofs.baskets.number_basket.Goals as goal

pub returns-in-Some-clause-fault : goal.returns-in-Some-clause-fault
returns-in-Some-clause-fault c = grind (arith, common_steps, no_fault, before_names)
