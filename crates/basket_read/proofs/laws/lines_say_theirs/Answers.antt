use Rattle.basket_read.proofs.JoinedLemmas as lemmas
use Rattle.basket_read.proofs.laws.lines_say_theirs.Goals as goal

pub returns : goal.returns
returns c = lemmas.lines_say_theirs
