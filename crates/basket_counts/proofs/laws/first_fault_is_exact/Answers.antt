use Rattle.basket_counts.proofs.GrammarLemmas as lemmas
use Rattle.basket_counts.proofs.laws.first_fault_is_exact.Goals as goal

pub returns : goal.returns
returns c = lemmas.first_fault_is_exact
