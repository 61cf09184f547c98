use Rattle.std.proofs.Common.{length, inl, inr, ap, ◌∙◌, arith}
use Rattle.std.proofs.lemmas.Bool.{cases_Bool}
use Rattle.std.proofs.lemmas.List.{take_all}
use Rattle.basket_sets.specs.Itemset.{has}
use Rattle.mine_conditional.proofs.NumberLemmas.{all_none}
use Rattle.mine_conditional.proofs.local_numbers.clear.Goals as goal
use Rattle.basket_sets.proofs.theory.Tests.{all_below_at}

pub offset_bounds-table-rank : goal.offset_bounds-table-rank
offset_bounds-table-rank g c = grind (arith, all_below_at (length c.args.table.now) c.args.kept.now c.loop-rank.rank-index c.requires.below c.loop-rank-test.true)

pub bounds-table-rank : goal.bounds-table-rank
bounds-table-rank g c = let here = all_below_at (length c.args.table.now) c.args.kept.now c.loop-rank.rank-index c.requires.below c.loop-rank-test.true in omega (arith, here, c.loop-rank.auto.table)

pub returns : goal.returns
returns g c =
    let kept = c.args.kept.now in
    let whole = take_all c.loop-rank.rank-index kept c.loop-rank-test.false in
    all_none c.args.none (length c.args.table.now) c.loop-rank.table c.loop-rank.auto.table (λ rank. elim (cases_Bool (has kept rank)) [
      | inl e ↦ c.loop-rank.invariant.done rank (ap (λ l. has l rank) whole ∙ e)
      | inr e ↦ c.loop-rank.invariant.none rank (c.requires.others rank e)
    ])
