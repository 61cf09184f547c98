use Rattle.std.proofs.Common.{◌≡◌, ◌+◌, ◌++◌, [], ◌∷◌, length, take, sym, subst, ap, ◌∙◌, arith, append_assoc}
use Rattle.std.proofs.lemmas.Grind.{common_steps}
use Rattle.std.specs.List.{IsDistinct}
use Rattle.std.specs.Prelude.{nat_eq}
use Rattle.std.proofs.lemmas.List.{take_all, take_more}
use Rattle.basket_sets.specs.Counts.{IsTable}
use Rattle.basket_sets.specs.Itemset.{has}
use Rattle.basket_sets.specs.Support.{total_of}
use Rattle.basket_sets.proofs.theory.Rising.{rising_distinct}
use Rattle.basket_sets.proofs.CountLemmas.{HasAdded, item_of_basket, table_push}
use Rattle.basket_sets.proofs.counts.add_baskets.Goals as goal

pub add_to_table-requires-clause-distinct : goal.add_to_table-requires-clause-distinct
add_to_table-requires-clause-distinct c = subst (IsDistinct nat_eq) (sym c.items.ensures.items) (rising_distinct _ c.items.ensures.rising)

pub add_to_table-requires-clause-within : goal.add_to_table-requires-clause-within
add_to_table-requires-clause-within c = λ item h.
    let its = ap (λ l. has l item) (sym c.items.ensures.items) ∙ h in
    let k = c.requires.within item (item_of_basket c.args.baskets.now c.loop-weighted.weighted-index c.weighted-item.result c.loop-weighted-test.true c.weighted-item.is item its) in
    omega (arith, c.loop-weighted.auto.table)

pub loop-weighted-preserved : goal.loop-weighted-preserved
loop-weighted-preserved c =
    let baskets = c.args.baskets.now in
    let i = c.loop-weighted.weighted-index in
    let weighted = c.weighted-item.result in
    let same : length c.add_to_table.new.table ≡ length c.loop-weighted.table = c.add_to_table.auto.table in
    let added = subst (λ l. HasAdded c.loop-weighted.table weighted.weight l c.add_to_table.new.table) c.items.ensures.items c.add_to_table.ensures in
    let next : take i baskets ++ weighted ∷ [] ≡ take (i + 1) baskets = ap (λ p. take i baskets ++ p ∷ []) c.weighted-item.is ∙ sym (take_more baskets i weighted c.loop-weighted-test.true) in
    record {
      table = λ before is.
          subst (λ l. IsTable l c.add_to_table.new.table) (append_assoc before (take i baskets) (weighted ∷ []) ∙ ap (λ l. before ++ l) next)
          (table_push (before ++ take i baskets) weighted c.loop-weighted.table c.add_to_table.new.table same added (c.loop-weighted.invariant.table before is));
      bounded = λ item. grind (arith, common_steps);
    }

pub returns : goal.returns
returns c =
    let whole = take_all c.loop-weighted.weighted-index c.args.baskets.now c.loop-weighted-test.false in
    record {
      table = λ before is. subst (λ l. IsTable (before ++ l) c.loop-weighted.table) whole (c.loop-weighted.invariant.table before is);
      bounded = λ item. let e = ap total_of whole in let small = c.loop-weighted.invariant.bounded item in omega arith;
    }
