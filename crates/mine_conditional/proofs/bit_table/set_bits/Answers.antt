use Rattle.std.proofs.Common.{◌+◌, length, get_or, set, sym, subst, ap, arith}
use Rattle.std.specs.Prelude.{take}
use Rattle.mine_conditional.specs.BitTable.{AreBits, option_bit}
use Rattle.mine_conditional.proofs.NumberLemmas.{number_more}
use Rattle.mine_conditional.proofs.bit_table.set_bits.Goals as goal
use Rattle.basket_sets.proofs.theory.Tests.{all_below_at}

pub bounds-of-rank : goal.bounds-of-rank
bounds-of-rank c = let here = all_below_at (length c.args.of.now) c.args.kept.now c.loop-at.at c.requires.below c.loop-at-test.true in omega (arith, here, c.loop-at.auto.of)

pub loop-at-preserved : goal.loop-at-preserved
loop-at-preserved c =
    let kept = c.args.kept.now in
    let at = c.loop-at.at in
    let here = all_below_at (length c.args.of.now) kept at c.requires.below c.loop-at-test.true in
    subst (AreBits (take (at + 1) kept)) (sym (ap (set c.loop-at.of (get_or kept at 0)) c.bit_of.ensures))
    (number_more option_bit kept c.requires.rises at c.loop-at.of c.loop-at-test.true (omega (arith, here, c.loop-at.auto.of)) c.loop-at.invariant)
