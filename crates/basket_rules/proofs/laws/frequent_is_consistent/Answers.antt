use Rattle.basket_rules.proofs.theory.Consistency.{frequent_is_consistent}
use Rattle.basket_rules.proofs.laws.frequent_is_consistent.Goals as goal

pub returns : goal.returns
returns c = frequent_is_consistent
