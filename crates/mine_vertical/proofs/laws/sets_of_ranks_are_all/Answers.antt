use Rattle.mine_vertical.proofs.JoinLemmas as lemmas
use Rattle.mine_vertical.proofs.laws.sets_of_ranks_are_all.Goals as goal

pub returns : goal.returns
returns c = lemmas.sets_of_ranks_are_all
