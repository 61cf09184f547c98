use Rattle.std.proofs.Common.{refl}
use Rattle.std.specs.Fmt.{digits}
use Rattle.basket_outcome.proofs.worked.nine_baskets_rules.Goals as goal

pub returns : goal.returns
unfolding digits
returns c = refl
