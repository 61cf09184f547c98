use Rattle.std.proofs.Common.{◌+◌, ◌*◌, arith, sym, ◌∙◌}
use Rattle.basket_read.proofs.RunLemmas.{digits_more, value_more}
use Rattle.basket_read.proofs.theory.Grammar.{chosen}
use Rattle.basket_read.proofs.number.with_digits.Goals as goal

pub loop-index-preserved : goal.loop-index-preserved
loop-index-preserved c = record {
  bound = omega arith;
  digits = digits_more c.args.bytes.now c.loop-index.index c.loop-index-test.true c.in-Digit.ensures.0 c.loop-index.invariant.digits;
  value = λ word e.
      value_more c.args.bytes.now word c.loop-index.index c.loop-index.value c.in-Digit.digit c.loop-index-test.true c.in-Digit.ensures.1 (c.loop-index.invariant.value word e)
      ∙ sym (chosen c.in-Some.longer (c.loop-index.value * 10 + c.in-Digit.digit) _ c.in-Some.ensures).1;
}
