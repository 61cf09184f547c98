use Rattle.std.proofs.Common.{length, subst, sym, ap, ◌∙◌, inl, inr, arith}
use Rattle.std.proofs.lemmas.Bool.{cases_Bool}
use Rattle.std.proofs.lemmas.List.{take_all}
use Rattle.basket_sets.specs.Counts.{AllBelow}
use Rattle.basket_sets.specs.Itemset.{has}
use Rattle.mine_pairs.proofs.theory.SumSteps.{all_zero, not_listed}
use Rattle.mine_pairs.proofs.sums.clear.Goals as goal
use Rattle.basket_sets.proofs.theory.Tests.{all_below_at}

pub bounds-sums-rank : goal.bounds-sums-rank
bounds-sums-rank c =
    let below = subst (AllBelow (length c.args.sums.now)) (sym c.items-rank-items.ensures) c.requires.below in
    let here = all_below_at (length c.args.sums.now) c.items-rank-items.result.now c.loop-rank.rank-index below c.loop-rank-test.true in
    omega (arith, here, c.loop-rank.auto.sums)

pub returns-clause-sums : goal.returns-clause-sums
returns-clause-sums c =
    let found = c.args.found.now in
    let whole = take_all c.loop-rank.rank-index c.items-rank-items.result.now c.loop-rank-test.false ∙ c.items-rank-items.ensures in
    all_zero (length c.args.sums.now) c.loop-rank.sums c.loop-rank.auto.sums (λ rank. elim (cases_Bool (has found rank)) [
      | inl e ↦ c.loop-rank.invariant.done rank (ap (λ l. has l rank) whole ∙ e)
      | inr e ↦ c.loop-rank.invariant.zero rank (not_listed (length c.args.sums.now) c.args.sums.now found rank c.requires e)
    ])
