use Rattle.std.proofs.Common.{◌≡◌, ◌≤◌, ◌-◌, ◌∷◌, [], filter, refl, true, sym, ap, subst, ◌∙◌, arith}
use Rattle.std.proofs.lemmas.Grind.{common_steps}
use Rattle.basket_ranks.specs.Codes.{frequent_of_coding}
use Rattle.basket_sets.specs.Database.{MOST_WEIGHT}
use Rattle.basket_ranks.specs.Depth.{HasSetOfSize, is_long, narrowed}
use Rattle.basket_sets.specs.Minimum.{meets}
use Rattle.basket_sets.specs.Support.{support_of, total_of}
use Rattle.basket_sets.proofs.theory.Support.{meets_more, support_falls}
use Rattle.basket_ranks.proofs.DepthLemmas.{left_light, reached, reached_light, reaches_long, reaches_none}
use Rattle.basket_ranks.proofs.depth.deep.Goals as goal

pub weight_of-requires : goal.weight_of-requires
weight_of-requires c =
    let coding = c.args.coded.now in
    let made = c.in_ok-rest.ensures ∙ ap (λ l. filter (is_long (c.args.depth - 1)) (narrowed 0 l)) c.baskets.ensures.baskets in
    let light = left_light 0 (c.args.depth - 1) coding.baskets c.in_ok-rest.rest.items made in
    let falls = support_falls coding.baskets (0 ∷ []) [] refl in
    omega (arith, ap total_of c.deref.ensures.value, light, falls, c.baskets.ensures.coding.light)

pub loop-size-init : goal.loop-size-init
loop-size-init c =
    let coding = c.args.coded.now in
    let made = c.in_ok-rest.ensures ∙ ap (λ l. filter (is_long (c.args.depth - 1)) (narrowed 0 l)) c.baskets.ensures.baskets in
    let light = left_light 0 (c.args.depth - 1) coding.baskets c.in_ok-rest.rest.items made in
    let weight = c.weight_of.ensures ∙ ap total_of c.deref.ensures.value in
    let met : meets coding.minimum (total_of c.in_ok-rest.rest.items) (total_of coding.baskets) ≡ true
    = ap (λ n. meets coding.minimum n (total_of coding.baskets)) (sym weight) ∙ ap (λ n. meets coding.minimum c.weight_of.result n) (sym c.total.ensures)
    ∙ ap (λ m. meets m c.weight_of.result c.total.result) (sym c.minimum.ensures) ∙ sym c.if-not-met.ensures in
    reaches_long coding 0 0 (c.args.depth - 1) coding.baskets c.in_ok-rest.rest.items (reaches_none coding) made
    (meets_more coding.minimum (total_of c.in_ok-rest.rest.items) (support_of coding.baskets (0 ∷ [])) (total_of coding.baskets) light met)

pub narrower-requires : goal.narrower-requires
narrower-requires c =
    subst (λ l. total_of l ≤ MOST_WEIGHT) (sym c.deref-in-loop-size.ensures.value) (reached_light c.args.coded.now c.loop-size.size c.loop-size.rest.items c.baskets.ensures.coding c.loop-size.invariant)

pub loop-size-preserved : goal.loop-size-preserved
loop-size-preserved c = grind (arith, common_steps, reaches_long)

pub returns : goal.returns
returns c = λ yes.
    let last : c.loop-size.size ≡ c.args.depth = omega (arith, c.loop-size.auto.size-end, c.loop-size-test.false, c.requires, c.loop-size.auto.size) in
    subst (HasSetOfSize (frequent_of_coding c.args.coded.now)) last
    (reached c.args.coded.now c.loop-size.size c.loop-size.rest.items c.baskets.ensures.coding c.loop-size.auto.size c.loop-size.invariant)
