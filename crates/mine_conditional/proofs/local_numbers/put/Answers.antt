use Rattle.std.proofs.Common.{length, arith}
use Rattle.mine_conditional.proofs.NumberLemmas.{index_le, number_more}
use Rattle.mine_conditional.proofs.local_numbers.put.Goals as goal
use Rattle.basket_sets.proofs.theory.Tests.{all_below_at}

pub overflow_cast-of : goal.overflow_cast-of
overflow_cast-of c = let low = index_le c.args.kept.now c.loop-at.at c.requires.rises c.loop-at-test.true in let fits = c.type_inv.kept c.loop-at.at in omega arith

pub bounds-of-rank : goal.bounds-of-rank
bounds-of-rank c = let here = all_below_at (length c.args.of.now) c.args.kept.now c.loop-at.at c.requires.below c.loop-at-test.true in omega (arith, here, c.loop-at.auto.of)

pub loop-at-preserved : goal.loop-at-preserved
loop-at-preserved c =
    let here = all_below_at (length c.args.of.now) c.args.kept.now c.loop-at.at c.requires.below c.loop-at-test.true in
    number_more (λ number. number) c.args.kept.now c.requires.rises c.loop-at.at c.loop-at.of c.loop-at-test.true (omega (arith, here, c.loop-at.auto.of)) c.loop-at.invariant
