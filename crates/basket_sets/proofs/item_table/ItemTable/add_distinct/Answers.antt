use Rattle.std.proofs.Common.{◌+◌, ◌++◌, ◌∷◌, [], None, length, get_or, cond, ◌∙◌, ap, sym, subst, arith}
use Rattle.std.proofs.lemmas.List.{with_items_is}
use Rattle.basket_sets.specs.Database.{weighted}
use Rattle.basket_sets.specs.ItemTable.{Tabled, HasCounted}
use Rattle.basket_sets.specs.Itemset.{rising}
use Rattle.basket_sets.specs.Slot.{slot_with}
use Rattle.basket_sets.proofs.CountLemmas.{counted_push}
use Rattle.basket_sets.proofs.theory.Rising.{has-rising}
use Rattle.basket_sets.proofs.item_table.ItemTable.add_distinct.Goals as goal

pub returns-clause-counted : goal.returns-clause-counted
returns-clause-counted c = λ _ before counted.
    let numbers = c.args.numbers.now in
    let weight = c.args.weight in
    let slots = c.deref_mut.ensures.value ∙ ap (λ (t : Tabled). t.slots) c.self.view_is in
    let long = ap length slots in
    let same = with_items_is c.self.inside.slots c.add_to_table.new.table (omega (arith, c.add_to_table.auto.table, c.deref_mut.ensures.len)) in
    subst (λ l. HasCounted (record { slots = l; total = c.self.inside.total + weight }) (before ++ weighted (rising numbers) weight ∷ [])) (sym same)
    (counted_push before (weighted (rising numbers) weight) c.args.self.now c.add_to_table.new.table (c.self.inside.total + weight) counted
    (λ item h. let k = c.are_distinct_below.ensures.below c.if-not-are_distinct_below.false item (sym (has-rising numbers item) ∙ h) in omega (arith, c.len.ensures, c.deref_mut.ensures.len))
    (omega (arith, c.add_to_table.auto.table))
    (omega (arith, ap (λ (t : Tabled). t.total) c.self.view_is))
    (λ item. c.add_to_table.ensures item ∙ (λ i. cond (sym (has-rising numbers item) i) (slot_with weight (get_or (slots i) item None)) (get_or (slots i) item None))))
