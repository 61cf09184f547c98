use Rattle.basket_read.proofs.InputLemmas as lemmas
use Rattle.basket_read.proofs.laws.settled_faults_stay.Goals as goal

pub returns : goal.returns
returns c = lemmas.settled_faults_stay
