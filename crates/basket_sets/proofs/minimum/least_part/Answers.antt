use Rattle.std.proofs.Common.{◌<◌, arith}
use Rattle.basket_sets.proofs.LeastLemmas.{least_part}
use Rattle.basket_sets.proofs.minimum.least_part.Goals as goal

pub returns : goal.returns
returns c =
    let some : 0 < c.args.share.1 = omega (arith, c.denominator.ensures.value, c.denominator.ensures.some) in
    rw (c.from.ensures, c.numerator.ensures, c.from-2.ensures, c.from-denominator.ensures, c.denominator.ensures.value) (least_part c.args.share.0 c.args.share.1 c.args.total some)
