use Rattle.basket_ranks.proofs.theory.Coding as lemmas
use Rattle.basket_ranks.proofs.laws.merging_keeps_coded.Goals as goal

pub returns : goal.returns
returns c = lemmas.merging_keeps_coded
