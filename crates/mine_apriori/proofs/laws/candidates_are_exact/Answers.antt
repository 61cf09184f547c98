use Rattle.mine_apriori.proofs.LawLemmas as lemmas
use Rattle.mine_apriori.proofs.laws.candidates_are_exact.Goals as goal

pub returns : goal.returns
returns c = lemmas.candidates_are_exact
