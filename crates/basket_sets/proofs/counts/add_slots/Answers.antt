use Rattle.std.proofs.Common.{None, get_or, unwrap_or, sym, ap, ◌∙◌, arith, inl, inr}
use Rattle.std.proofs.lemmas.Grind.{common_steps}
use Rattle.std.proofs.lemmas.List.{get_or_default, get_or_past}
use Rattle.std.proofs.lemmas.Bool.{cases_lt}
use Rattle.basket_sets.specs.Slot.{slots_joined}
use Rattle.basket_sets.proofs.counts.add_slots.Goals as goal
use Rattle.basket_sets.proofs.counts.add_slots.Goals.{in-Some}

pub add-requires : goal.add-requires
add-requires c =
    let i = c.loop-item.item in
    let here = ap (λ s. unwrap_or s 0) (get_or_default c.loop-item.table i c.index-table-item.result None (omega (arith, c.requires.within, c.loop-item.auto.table)) ∙ c.loop-item.invariant.left i (omega arith)) in
    let more = ap (λ s. unwrap_or s 0) (c.in-Some.ensures ∙ c.index-more-item.is ∙ get_or_default c.args.more.now i c.index-more-item.result None c.loop-item-test.true) in
    let fits = c.requires.fits i in
    omega arith

pub loop-item-preserved : goal.loop-item-preserved
loop-item-preserved c = grind (arith, common_steps, get_or_default, common_steps)

pub returns : goal.returns
returns c = λ item. elim (cases_lt item c.loop-item.item) [
  | inl before ↦ c.loop-item.invariant.done item before
  | inr after ↦ c.loop-item.invariant.left item after ∙ ap (slots_joined (get_or c.args.table.now item None)) (sym (get_or_past c.args.more.now item None (omega (arith, c.loop-item-test.false))))
]
