use Rattle.basket_csv.proofs.NamedLemmas.{pairs_are_numbered, pair_support_is_by_names}
use Rattle.basket_csv.proofs.laws.pairs_are_numbered.Goals as goal

pub returns-clause-numbered : goal.returns-clause-numbered
returns-clause-numbered c = pairs_are_numbered

pub returns-clause-support : goal.returns-clause-support
returns-clause-support c = pair_support_is_by_names
