use Rattle.basket_laws.proofs.NameLemmas.{named_parts_are_parts}
use Rattle.basket_laws.proofs.names.named_parts_are_parts.Goals as goal

pub returns : goal.returns
returns c = named_parts_are_parts
