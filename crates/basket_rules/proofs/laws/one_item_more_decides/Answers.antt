use Rattle.basket_rules.proofs.theory.Condensed.{one_item_more_decides}
use Rattle.basket_rules.proofs.laws.one_item_more_decides.Goals as goal

pub returns : goal.returns
returns c = one_item_more_decides
