use Rattle.basket_ranks.proofs.theory.Coding as lemmas
use Rattle.basket_ranks.proofs.laws.coding_keeps_frequent.Goals as goal

pub returns : goal.returns
returns c = lemmas.coding_keeps_frequent
