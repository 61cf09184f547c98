use Rattle.std.proofs.Common.{◌+◌, ◌++◌, take, sym, subst, ap, ◌∙◌, arith}
use Rattle.std.proofs.lemmas.Grind.{common_steps}
use Rattle.std.proofs.lemmas.List.{take_all, get_or_default}
use Rattle.basket_sets.specs.Counts.{AllBelow}
use Rattle.basket_sets.specs.Itemset.{IsRising}
use Rattle.basket_sets.specs.Support.{all_items}
use Rattle.basket_sets.proofs.CountLemmas.{all_items_more, below_more, last_is_greatest}
use Rattle.basket_sets.proofs.theory.Members.{Contains-from_Member}
use Rattle.basket_sets.proofs.theory.Rising.{Member-from_has}
use Rattle.basket_sets.proofs.counts.greatest_item.Goals as goal

pub returns : goal.returns
returns c = subst (λ l. AllBelow (c.loop-weighted.greatest + 1) (all_items l)) (take_all c.loop-weighted.weighted-index c.args.baskets.now (omega arith)) c.loop-weighted.invariant

pub loop-weighted-preserved : goal.loop-weighted-preserved
loop-weighted-preserved c =
    let so_far = all_items (take c.loop-weighted.weighted-index c.args.baskets.now) in
    let items = c.items.result.now in
    let basket = c.weighted-item.result.basket in
    let up = subst IsRising (sym c.items.ensures.items) c.items.ensures.rising in
    let more = all_items_more c.args.baskets.now c.loop-weighted.weighted-index c.weighted-item.result c.loop-weighted-test.true
    ∙ ap (λ p. so_far ++ p.basket) (sym c.weighted-item.is) in
    grind (arith, common_steps, last_is_greatest, get_or_default, below_more, Contains-from_Member, Member-from_has)
