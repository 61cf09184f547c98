use Rattle.basket_read.proofs.GrammarLemmas as lemmas
use Rattle.basket_read.proofs.laws.first_fault_is_exact.Goals as goal

pub returns : goal.returns
returns c = lemmas.first_fault_is_exact
