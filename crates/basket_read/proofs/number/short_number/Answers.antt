use Rattle.std.proofs.Common.{[], get_or, arith}
use Rattle.basket_read.proofs.RunLemmas.{digits_more, digit_below, few_digits, one_digit_more, value_more}
use Rattle.basket_read.proofs.number.short_number.Goals as goal

pub overflow_mul-value : goal.overflow_mul-value
overflow_mul-value c = let small = few_digits c.loop-index.index c.loop-index.value c.loop-index.invariant.small (omega arith) in omega arith

pub overflow_add-value : goal.overflow_add-value
overflow_add-value c =
    let small = few_digits c.loop-index.index c.loop-index.value c.loop-index.invariant.small (omega arith) in
    let more = digit_below (get_or c.args.bytes.now c.loop-index.index 0) c.in-Digit.digit c.in-Digit.ensures.0 c.in-Digit.ensures.1 in
    omega arith

pub loop-index-preserved : goal.loop-index-preserved
loop-index-preserved c = record {
  small = rw c.from.ensures (one_digit_more c.loop-index.index c.loop-index.value (get_or c.args.bytes.now c.loop-index.index 0) c.in-Digit.digit c.loop-index.invariant.small c.in-Digit.ensures.0 c.in-Digit.ensures.1);
  digits = digits_more c.args.bytes.now c.loop-index.index c.loop-index-test.true c.in-Digit.ensures.0 c.loop-index.invariant.digits;
  value = rw c.from.ensures (value_more c.args.bytes.now [] c.loop-index.index c.loop-index.value c.in-Digit.digit c.loop-index-test.true c.in-Digit.ensures.1 c.loop-index.invariant.value);
}
