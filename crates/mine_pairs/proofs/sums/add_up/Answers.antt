use Rattle.std.proofs.Common.{[], ap, arith}
use Rattle.basket_sets.specs.declared.weighted.Weighted.{Weighted}
use Rattle.basket_sets.specs.Database.{weighted}
use Rattle.mine_baskets.specs.Baskets.{baskets_in}
use Rattle.mine_pairs.proofs.theory.Sums.{sum_light}
use Rattle.mine_pairs.proofs.sums.add_up.Goals as goal

pub add_basket-requires-clause-light : goal.add_basket-requires-clause-light
add_basket-requires-clause-light c = λ rank here.
    let baskets = baskets_in c.args.baskets in
    let light = sum_light baskets c.loop-index.index rank (weighted [] 0) (omega (arith, c.loop-index-test.true, c.len-index-end.ensures)) c.args.baskets.ranked.light in
    let weight = ap (λ (p : Weighted). p.weight) c.at-weight.ensures.basket in
    let sum = c.loop-index.invariant.added rank (omega (arith, here, c.loop-index.auto.sums)) in
    omega (arith, light, weight, sum)
