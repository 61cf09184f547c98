use Rattle.std.proofs.Common.{◌+◌, subst, arith}
use Rattle.std.proofs.lemmas.List.{take_all}
use Rattle.basket_sets.specs.Counts.{AllBelow}
use Rattle.basket_sets.proofs.counts.greatest_of.Goals as goal

pub returns : goal.returns
returns c = subst (AllBelow (c.loop-number.greatest + 1)) (take_all c.loop-number.number-index c.args.numbers.now (omega arith)) c.loop-number.invariant
