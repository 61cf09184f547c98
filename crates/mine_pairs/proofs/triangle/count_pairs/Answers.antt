use Rattle.std.proofs.Common.{◌<◌, [], ℕ, length, ap, arith}
use Rattle.std.proofs.lemmas.Grind.{common_steps}
use Rattle.std.specs.declared.alloc.Global.{Global}
use Rattle.std.specs.declared.vec.Vec.{Vec}
use Rattle.std.proofs.lemmas.List.{length-map}
use Rattle.basket_sets.specs.declared.weighted.Weighted.{Weighted}
use Rattle.basket_sets.specs.Database.{weighted}
use Rattle.mine_pairs.specs.Pairs.{lists_of}
use Rattle.mine_pairs.proofs.TriangleLemmas.{counts_light, counts_more}
use Rattle.mine_pairs.proofs.triangle.count_pairs.Goals as goal

pub count_basket-requires-clause-light : goal.count_basket-requires-clause-light
count_basket-requires-clause-light g c = λ k lesser within less.
    let rows = c.loop-index.rows in
    let baskets = g.B.RankedBaskets.baskets c.args.baskets.now in
    let here : c.loop-index.index < length baskets = omega (arith, c.loop-index-test.true, c.basket_count-index-end.ensures) in
    let light = counts_light baskets c.loop-index.index (weighted [] 0) c.args.first (lists_of rows) here c.loop-index.invariant
    c.basket_at-weight.ensures.light k lesser (omega (arith, within, length-map rows (λ (v : Vec ℕ Global). v.items))) less in
    omega (arith, light, ap (λ (p : Weighted). p.weight) c.basket_at-weight.ensures.basket)

pub loop-index-preserved : goal.loop-index-preserved
loop-index-preserved g c = grind (arith, common_steps, counts_more, length-map)
