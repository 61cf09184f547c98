use Rattle.std.proofs.Common.{◌≡◌, ◌+◌, ◌≤◌, ◌^◌, ℕ, None, Option, length, get_or, map, min, replicate, unwrap_or, ◌∙◌, ap, sym, subst, arith}
use Rattle.std.proofs.lemmas.List.{length-replicate, with_items_is}
use Rattle.basket_sets.specs.Counts.{AllBelow}
use Rattle.basket_sets.specs.Database.{renamed_basket}
use Rattle.basket_sets.specs.ItemTable.{Tabled, HasCounted, IsBounded}
use Rattle.basket_sets.proofs.RenameLemmas.{nothing, renamed_counted}
use Rattle.basket_sets.proofs.item_table.ItemTable.rename.Goals as goal

pub invariant_of-self : goal.invariant_of-self
invariant_of-self c =
    let many = c.greatest_of-greatest.result + 1 in
    let made = c.deref_mut.ensures.value ∙ c.in_ok-slots.ensures.items_if_clones_equal (λ y e. e) ∙ ap (replicate many) c.empty.ensures in
    let same = with_items_is c.in_ok-slots.slots c.put_slots.new.table (omega (arith, c.put_slots.auto.table, c.deref_mut.ensures.len)) in
    let empty : (item : ℕ) → unwrap_or (get_or c.deref_mut.result.now item None) 0 ≤ c.self.inside.total =
    λ item. rw (ap (λ l. unwrap_or (get_or l item None) 0) made ∙ ap (λ s. unwrap_or s 0) (nothing many item)) (omega arith) in
    let long : length c.put_slots.new.table ≤ 2 ^ 32 = omega (arith, c.put_slots.auto.table, ap length made, length-replicate {A = Option ℕ} many None, c.greatest_of-greatest.type_inv) in
    subst (λ l. IsBounded l c.self.inside.total) (sym same) (record {
      supports = c.put_slots.ensures.bounded c.self.inside.total (λ item. rw (ap (λ l. unwrap_or (get_or l item None) 0) c.deref.ensures.value) (c.self.invariant.supports item)) empty;
      light = c.self.invariant.light;
      few = long;
    })

pub returns-clause-renamed : goal.returns-clause-renamed
returns-clause-renamed c = λ baskets counted distinct below.
    let names = c.args.names.now in
    let slots = c.put_slots.new.table in
    let many = c.greatest_of-greatest.result + 1 in
    let made = c.deref_mut.ensures.value ∙ c.in_ok-slots.ensures.items_if_clones_equal (λ y e. e) ∙ ap (replicate many) c.empty.ensures in
    let same = with_items_is c.in_ok-slots.slots slots (omega (arith, c.put_slots.auto.table, c.deref_mut.ensures.len)) in
    let old = c.deref.ensures.value ∙ ap (λ (t : Tabled). t.slots) c.self.view_is in
    let fits : AllBelow (length slots) names = λ item h. let k = c.greatest_of-greatest.ensures item h in omega (arith, c.put_slots.auto.table, ap length made, length-replicate {A = Option ℕ} many None) in
    subst (λ l. HasCounted (record { slots = l; total = c.self.inside.total }) (map (renamed_basket names) baskets)) (sym same)
    (subst (λ total. HasCounted (record { slots = slots; total = total }) (map (renamed_basket names) baskets)) (sym (ap (λ (t : Tabled). t.total) c.self.view_is))
    (renamed_counted names distinct c.args.self.now slots (min (length c.deref.result.now) (length names)) baskets (ap (λ l. min (length l) (length names)) old) counted below fits
    (λ item less. c.put_slots.ensures.named distinct item less ∙ ap (λ l. get_or l item None) old)
    (λ other e. c.put_slots.ensures.others other e ∙ ap (λ l. get_or l other None) made ∙ nothing many other)))
