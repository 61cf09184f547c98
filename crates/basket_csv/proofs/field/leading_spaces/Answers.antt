use Rattle.std.proofs.Common.{arith}
use Rattle.std.proofs.lemmas.List.Sums.{prefix_len_is}
use Rattle.basket_csv.specs.Field.{is_space}
use Rattle.basket_csv.proofs.field.leading_spaces.Goals as goal

pub returns-clause-value : goal.returns-clause-value
returns-clause-value c =
    let all = c.loop-index-test.false in
    let most = c.loop-index.auto.index-end in
    let same = prefix_len_is is_space c.args.bytes.now c.loop-index.index 0 most c.loop-index.invariant (λ h. absurd (omega arith)) in
    omega (arith, same)
