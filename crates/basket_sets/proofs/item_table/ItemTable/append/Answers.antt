use Rattle.std.proofs.Common.{◌+◌, ◌++◌, None, get_or, length, ◌∙◌, ap, sym, subst, arith}
use Rattle.std.proofs.lemmas.List.{with_items_is}
use Rattle.basket_sets.specs.ItemTable.{Tabled, HasCounted}
use Rattle.basket_sets.specs.Slot.{slots_joined}
use Rattle.basket_sets.proofs.CountLemmas.{counted_both}
use Rattle.basket_sets.proofs.item_table.ItemTable.append.Goals as goal

pub returns-clause-counted : goal.returns-clause-counted
returns-clause-counted c = λ before more counted also.
    let slots = c.deref_mut.ensures.value ∙ ap (λ (t : Tabled). t.slots) c.self.view_is in
    let added = c.deref.ensures.value ∙ ap (λ (t : Tabled). t.slots) c.other.view_is in
    let long = ap length slots in
    let long_other = ap length added in
    let same = with_items_is c.self.inside.slots c.add_slots.new.table (omega (arith, c.add_slots.auto.table, c.deref_mut.ensures.len)) in
    subst (λ l. HasCounted (record { slots = l; total = c.self.inside.total + c.other.inside.total }) (before ++ more)) (sym same)
    (counted_both before more c.reach.new.self c.args.other.now c.add_slots.new.table (c.self.inside.total + c.other.inside.total) (c.in_ok-reach.ensures.same before counted) also
    (omega (arith, c.add_slots.auto.table, c.in_ok-reach.ensures.reaches, c.len.ensures, c.deref.ensures.len))
    (omega (arith, c.add_slots.auto.table))
    (omega (arith, ap (λ (t : Tabled). t.total) c.self.view_is, ap (λ (t : Tabled). t.total) c.other.view_is))
    (λ item. c.add_slots.ensures item ∙ (λ i. slots_joined (get_or (slots i) item None) (get_or (added i) item None))))
