use Rattle.basket_read.proofs.InputLemmas as lemmas
use Rattle.basket_read.proofs.laws.unsettled_may_be_good.Goals as goal

pub returns : goal.returns
returns c = lemmas.unsettled_may_be_good
