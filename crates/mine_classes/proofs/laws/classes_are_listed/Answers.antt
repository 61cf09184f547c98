use Rattle.mine_classes.proofs.theory.Together as lemmas
use Rattle.mine_classes.proofs.laws.classes_are_listed.Goals as goal

pub returns : goal.returns
returns c = lemmas.classes_are_listed
