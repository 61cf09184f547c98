use Rattle.std.proofs.Common.{arith}
use Rattle.std.proofs.lemmas.List.Sums.{suffix_len_is}
use Rattle.basket_csv.specs.Field.{is_space}
use Rattle.basket_csv.proofs.field.end_spaces.Goals as goal

pub returns-after-loop-end-clause-value : goal.returns-after-loop-end-clause-value
returns-after-loop-end-clause-value c =
    let inv = c.loop-end.invariant in
    let none = c.loop-end-test.false in
    let same = suffix_len_is is_space c.args.bytes.now c.loop-end.end 0 inv.within inv.spaces (λ some. absurd (omega arith)) in
    let most = inv.within in
    omega (arith, same)
