use Rattle.basket_csv.proofs.NamedLemmas.{baskets_are_numbered, basket_support_is_by_names}
use Rattle.basket_csv.proofs.laws.baskets_are_numbered.Goals as goal

pub returns-clause-numbered : goal.returns-clause-numbered
returns-clause-numbered c = baskets_are_numbered

pub returns-clause-support : goal.returns-clause-support
returns-clause-support c = basket_support_is_by_names
