use Rattle.std.proofs.Common.{◌≡◌, [], take, ap, sym, refl, ◌∙◌, arith}
use Rattle.std.specs.List.{list_all}
use Rattle.std.proofs.lemmas.List.{take-take}
use Rattle.basket_sets.specs.Number.{is_digit, value_of}
use Rattle.basket_read.proofs.RunLemmas.{take_both, within_both, number_goes_on}
use Rattle.basket_read.proofs.number.number_at.Goals as goal

pub returns-then-bytes-lt-SHORT-clause-value : goal.returns-then-bytes-lt-SHORT-clause-value
returns-then-bytes-lt-SHORT-clause-value c = c.with_digits.ensures.value [] refl

pub returns-then-short-lt-SHORT-clause-digits : goal.returns-then-short-lt-SHORT-clause-digits
returns-then-short-lt-SHORT-clause-digits c =
    ap (list_all is_digit) (sym (take-take c.short_number-short.result.count 8 c.args.bytes.now c.short_number-short.ensures.within)) ∙ c.short_number-short.ensures.digits

pub returns-then-short-lt-SHORT-clause-value : goal.returns-then-short-lt-SHORT-clause-value
returns-then-short-lt-SHORT-clause-value c =
    ap value_of (sym (take-take c.short_number-short.result.count 8 c.args.bytes.now c.short_number-short.ensures.within)) ∙ c.short_number-short.ensures.value

pub returns : goal.returns
returns c =
    let all : c.short_number-short.result.count ≡ 8 = let most = c.short_number-short.ensures.within in omega arith in
    let same = take-take 8 8 c.args.bytes.now (omega arith) in
    let digits = ap (λ n. list_all is_digit (take n (take 8 c.args.bytes.now))) (sym all) ∙ c.short_number-short.ensures.digits in
    let value = ap (λ n. value_of (take n (take 8 c.args.bytes.now))) (sym all) ∙ c.short_number-short.ensures.value in
    record {
      within = within_both c.args.bytes.now 8 c.with_digits-more.result.count c.if-bytes-lt-SHORT.false c.with_digits-more.ensures.within;
      bound = c.with_digits-more.ensures.bound;
      digits = number_goes_on c.args.bytes.now 8 c.with_digits-more.result.count (ap (list_all is_digit) (sym same) ∙ digits) c.with_digits-more.ensures.digits;
      value = ap value_of (sym (take_both c.args.bytes.now 8 c.with_digits-more.result.count)) ∙ c.with_digits-more.ensures.value (take 8 c.args.bytes.now) (ap value_of (sym same) ∙ value);
    }
