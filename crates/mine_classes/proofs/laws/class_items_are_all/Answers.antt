use Rattle.mine_classes.proofs.theory.Listed as lemmas
use Rattle.mine_classes.proofs.laws.class_items_are_all.Goals as goal

pub returns : goal.returns
returns c = lemmas.class_items_are_all c.decoding_keeps_frequent.ensures
