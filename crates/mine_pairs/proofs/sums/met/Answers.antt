use Rattle.std.proofs.Common.{ℕ, Bool, filter, get_or, length, sym, subst, ap, ◌∙◌}
use Rattle.std.proofs.lemmas.List.{take_all}
use Rattle.basket_sets.specs.Counts.{AllBelow}
use Rattle.basket_sets.specs.Itemset.{rising}
use Rattle.mine_pairs.specs.Sums.{is_met}
use Rattle.mine_pairs.proofs.theory.SumSteps.{below_rising}
use Rattle.mine_pairs.proofs.sums.met.Goals as goal
use Rattle.basket_sets.proofs.theory.Tests.{all_below_at}

pub bounds-sums-rank : goal.bounds-sums-rank
bounds-sums-rank c = all_below_at (length c.args.sums.now) c.args.found.now c.loop-rank.rank-index c.requires.below c.loop-rank-test.true

pub with_sums-requires : goal.with_sums-requires
with_sums-requires c =
    let met : ℕ → Bool = λ rank. is_met c.args.least (get_or c.args.sums.now rank 0) in
    let kept = c.deref.ensures.value ∙ c.loop-rank.invariant ∙ ap (filter met) (take_all c.loop-rank.rank-index c.args.found.now c.loop-rank-test.false) in
    subst (AllBelow (length c.args.sums.now)) (sym (c.items-2.ensures.items ∙ c.in_ok-from_items.ensures.ok ∙ ap rising kept)) (below_rising (length c.args.sums.now) met c.args.found.now c.requires.below)
