use Rattle.basket_sets.proofs.theory.Frequent as lemmas
use Rattle.basket_sets.proofs.laws.frequent_is_unique.Goals as goal

pub returns : goal.returns
returns c = lemmas.frequent_is_unique
