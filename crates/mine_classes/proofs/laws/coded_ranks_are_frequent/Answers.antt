use Rattle.mine_classes.proofs.theory.Listed as lemmas
use Rattle.mine_classes.proofs.laws.coded_ranks_are_frequent.Goals as goal

pub returns : goal.returns
returns c = lemmas.coded_ranks_are_frequent
