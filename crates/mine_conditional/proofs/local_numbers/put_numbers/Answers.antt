use Rattle.std.proofs.Common.{None, get_or, length, take, ap, ◌∙◌, arith}
use Rattle.std.proofs.lemmas.Grind.{common_steps}
use mir.Val.{bool_byte}
use Rattle.mine_conditional.specs.LocalNumbers.{table_numbers}
use Rattle.mine_conditional.proofs.NumberLemmas.{numbers_more, slot_put}
use Rattle.mine_pairs.proofs.theory.SumSteps.{one_at_most}
use Rattle.mine_conditional.proofs.local_numbers.put_numbers.Goals as goal
use Rattle.basket_sets.proofs.theory.Tests.{all_below_at}

pub bounds-of-rank : goal.bounds-of-rank
bounds-of-rank c = all_below_at (length c.args.of.now) c.args.basket.now c.loop-rank.rank-index c.requires.below c.loop-rank-test.true

pub loop-rank-preserved : goal.loop-rank-preserved
loop-rank-preserved c =
    let of = c.args.of.now in
    let basket = c.args.basket.now in
    let old = take c.args.count c.args.locals.now in
    let locals = c.loop-rank.locals in
    let i = c.loop-rank.rank-index in
    let end = c.loop-rank.end in
    let was = c.loop-rank.invariant in
    let slot = get_or of (get_or basket i 0) None in
    let counted = c.from-end.ensures ∙ ap bool_byte c.is_some.ensures in
    let most = one_at_most c.is_some.result in
    let so_far = table_numbers of (take i basket) in
    grind (arith, common_steps, slot_put, numbers_more)
