use Rattle.std.proofs.Common.{refl}
use Rattle.std.specs.Fmt.{digits}
use Rattle.basket_outcome.proofs.worked.six_sets_are_too_many.Goals as goal

pub returns-clause-five : goal.returns-clause-five
unfolding digits
returns-clause-five c = refl

pub returns-clause-six : goal.returns-clause-six
unfolding digits
returns-clause-six c = refl

pub returns-clause-items : goal.returns-clause-items
unfolding digits
returns-clause-items c = refl
