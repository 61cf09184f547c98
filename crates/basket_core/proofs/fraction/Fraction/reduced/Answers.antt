use Rattle.std.proofs.Common.{◌/◌, sym}
use Rattle.basket_core.proofs.FractionLemmas.{common_divisor_is, same_ratio, is_lowest, above_zero}
use Rattle.basket_core.proofs.fraction.Fraction.reduced.Goals as goal

pub nonzero_div-result : goal.nonzero_div-result
nonzero_div-result c = above_zero c.args.numerator c.args.denominator c.common_divisor-divisor.result c.requires c.common_divisor-divisor.ensures

pub nonzero_div-result-2 : goal.nonzero_div-result-2
nonzero_div-result-2 c = above_zero c.args.numerator c.args.denominator c.common_divisor-divisor.result c.requires c.common_divisor-divisor.ensures

pub invariant_of-result : goal.invariant_of-result
invariant_of-result c = is_lowest c.args.numerator c.args.denominator c.common_divisor-divisor.result c.requires c.common_divisor-divisor.ensures

pub returns-clause-value : goal.returns-clause-value
returns-clause-value c =
    let n = c.args.numerator in
    let d = c.args.denominator in
    let e = sym (common_divisor_is n d c.common_divisor-divisor.result c.requires c.common_divisor-divisor.ensures) in
    λ i. record { numerator = n / e i; denominator = d / e i }

pub returns-clause-same : goal.returns-clause-same
returns-clause-same c = same_ratio c.args.numerator c.args.denominator c.common_divisor-divisor.result c.requires c.common_divisor-divisor.ensures

pub returns-clause-lowest : goal.returns-clause-lowest
returns-clause-lowest c = is_lowest c.args.numerator c.args.denominator c.common_divisor-divisor.result c.requires c.common_divisor-divisor.ensures
