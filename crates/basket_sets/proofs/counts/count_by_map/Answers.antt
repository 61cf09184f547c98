use Rattle.std.proofs.Common.{◌≡◌, ℕ, ◌++◌, [], ◌∷◌, take, cond, sym, subst, ap, ◌∙◌, arith}
use Rattle.std.proofs.lemmas.Grind.{common_steps}
use Rattle.std.specs.BTreeMap.{get}
use Rattle.std.specs.List.{IsDistinct}
use Rattle.std.specs.Ordering.{nat_cmp}
use Rattle.std.specs.Prelude.{nat_eq}
use Rattle.std.proofs.lemmas.Iterator.{items_from_collect}
use Rattle.std.proofs.lemmas.Iterator.Consumers.{YieldsList-from_rest}
use Rattle.std.proofs.lemmas.List.{take_all, take_more}
use Rattle.std.proofs.lemmas.List.Sums.{sum_by_more_le}
use Rattle.std.proofs.lemmas.Result.{IfOk-weaker}
use Rattle.basket_sets.specs.Counts.{tally}
use Rattle.basket_sets.specs.Itemset.{has}
use Rattle.basket_sets.specs.Slot.{slot_with}
use Rattle.basket_sets.proofs.CountLemmas.{tally_push}
use Rattle.basket_sets.proofs.theory.Counts.{supports_are, tally_fits}
use Rattle.basket_sets.proofs.theory.Rising.{rising_distinct}
use Rattle.basket_sets.proofs.counts.count_by_map.Goals as goal

pub add_to_map-requires-clause-distinct : goal.add_to_map-requires-clause-distinct
add_to_map-requires-clause-distinct c = subst (IsDistinct nat_eq) (sym c.items.ensures.items) (rising_distinct _ c.items.ensures.rising)

pub add_to_map-requires-clause-fits : goal.add_to_map-requires-clause-fits
add_to_map-requires-clause-fits c = λ item. grind (arith, common_steps, tally_fits, sum_by_more_le)

pub loop-weighted-preserved : goal.loop-weighted-preserved
loop-weighted-preserved c = λ item.
    let baskets = c.args.baskets.now in
    let i = c.loop-weighted.weighted-index in
    let weighted = c.weighted-item.result in
    let before = take i baskets in
    c.in_ok-add_to_map.ensures item
    ∙ (λ j. cond (has (c.items.ensures.items j) item) (slot_with weighted.weight (c.loop-weighted.invariant item j)) (c.loop-weighted.invariant item j))
    ∙ tally_push before weighted item
    ∙ ap (λ l. tally l item) (ap (λ p. before ++ p ∷ []) c.weighted-item.is ∙ sym (take_more baskets i weighted c.loop-weighted-test.true))

pub returns : goal.returns
returns c =
    let baskets = c.args.baskets.now in
    let known : (item : ℕ) → get nat_cmp c.loop-weighted.supports item ≡ tally baskets item = λ item. c.loop-weighted.invariant item ∙ ap (λ l. tally l item) (take_all c.loop-weighted.weighted-index baskets c.loop-weighted-test.false) in
    IfOk-weaker c.collect.result _ _ (λ counts all. all ∙ supports_are baskets c.loop-weighted.supports.entries c.into_iter.ensures.into_iter_gives.5 known)
    (items_from_collect c.collect.result c.collect.ensures.ran (YieldsList-from_rest _ c.into_iter.ensures.into_iter_gives.0))
