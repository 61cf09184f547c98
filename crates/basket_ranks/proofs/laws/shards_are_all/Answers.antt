use Rattle.basket_ranks.proofs.theory.Shards as lemmas
use Rattle.basket_ranks.proofs.laws.shards_are_all.Goals as goal

pub returns-clause-numbers : goal.returns-clause-numbers
returns-clause-numbers c = lemmas.shards_are_all

pub returns-clause-baskets : goal.returns-clause-baskets
returns-clause-baskets c = lemmas.shards_are_all
