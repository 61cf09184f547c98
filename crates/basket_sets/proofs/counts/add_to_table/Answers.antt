use Rattle.std.proofs.Common.{None, get_or, ap, ◌∙◌, arith, unwrap_or}
use Rattle.std.proofs.lemmas.List.{get_or_default}
use Rattle.std.proofs.lemmas.Grind.{common_steps}
use Rattle.basket_sets.proofs.CountLemmas.{slot_before}
use Rattle.basket_sets.proofs.theory.Rising.{has_more, has_at, not_before}
use Rattle.basket_sets.proofs.counts.add_to_table.Goals as goal

pub bounds-table-item : goal.bounds-table-item
bounds-table-item c =
    let items = c.args.items.now in
    let i = c.loop-item.item-index in
    let within = c.requires.within (get_or items i 0) (has_at items i c.loop-item-test.true) in
    omega (arith, c.loop-item.auto.table)

pub add-requires : goal.add-requires
add-requires c =
    let items = c.args.items.now in
    let i = c.loop-item.item-index in
    let item = get_or items i 0 in
    let here = has_at items i c.loop-item-test.true in
    let within = c.requires.within item here in
    let fits = c.requires.fits item here in
    let slot = get_or_default c.loop-item.table item c.index-table-item.result None (omega (arith, within, c.loop-item.auto.table))
    ∙ slot_before items c.args.table.now c.loop-item.table i c.args.weight c.requires.distinct c.loop-item-test.true c.loop-item.invariant in
    omega (arith, fits, ap (λ s. unwrap_or s 0) slot)

pub loop-item-preserved : goal.loop-item-preserved
loop-item-preserved c = λ number. grind (arith, common_steps, has_at, get_or_default, has_more, not_before, common_steps)
