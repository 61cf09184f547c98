use Rattle.std.proofs.Common.{ℕ, ◌+◌, ◌<◌, ◌≡◌, ◌∙◌, None, get_or, length, arith}
use Rattle.std.proofs.lemmas.List.{get_or_default}
use Rattle.basket_sets.specs.Counts.{AllBelow}
use Rattle.basket_sets.proofs.RenameLemmas.{slot_bounded, slot_more, slot_stays}
use Rattle.basket_sets.proofs.theory.Rising.{has_at}
use Rattle.basket_sets.proofs.counts.put_slots.Goals as goal

pub bounds-table-names : goal.bounds-table-names
bounds-table-names c = let within = c.requires (get_or c.args.names.now c.loop-item.item 0) (has_at c.args.names.now c.loop-item.item (omega arith)) in omega (arith, c.loop-item.auto.table)

pub loop-item-preserved : goal.loop-item-preserved
loop-item-preserved c =
    let names = c.args.names.now in
    let slots = c.args.slots.now in
    let table = c.loop-item.table in
    let i = c.loop-item.item in
    let slot = c.index-slots-item.result in
    let short : i < length names = omega (arith, c.min-item-end.ensures, c.loop-item-test.true) in
    let is : slot ≡ get_or slots i None = c.index-slots-item.is ∙ get_or_default slots i slot None (omega (arith, c.min-item-end.ensures, c.loop-item-test.true)) in
    let fits : AllBelow (length table) names = λ item h. let k = c.requires item h in omega (arith, c.loop-item.auto.table) in
    record {
      named = λ distinct. slot_more names distinct slots table i slot short fits is (c.loop-item.invariant.named distinct);
      others = λ other h. let p = slot_stays names table i slot other short h in p.1 ∙ c.loop-item.invariant.others other p.0;
      bounded = λ most each before. slot_bounded table (get_or names i 0) most slot (rw is (each i)) (c.loop-item.invariant.bounded most each before) (fits (get_or names i 0) (has_at names i short));
    }
