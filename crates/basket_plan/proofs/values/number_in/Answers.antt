use Rattle.std.proofs.Common.{arith}
use Rattle.clap.specs.Words.{found_of}
use Rattle.basket_plan.proofs.CommandLemmas.{number_out, number_some}
use Rattle.basket_plan.proofs.values.number_in.Goals as goal

pub returns-in-Some-clause-found : goal.returns-in-Some-clause-found
returns-in-Some-clause-found c = number_some (found_of c.args.options.now) c.args.name.now c.args.most c.in-Some.number (λ text e. (c.in-Some.ensures.value text e).0) (λ e. let bad = c.in-Some.ensures.none e in cc)
    c.if-number-ge1.true c.if-number-most.true

pub returns-in_default-clause-found : goal.returns-in_default-clause-found
returns-in_default-clause-found c = number_out (found_of c.args.options.now) c.args.name.now c.args.most (omega (arith, c.ranges.most)) c.in-Some.number (λ text e. (c.in-Some.ensures.value text e).0)
    (λ _ greatest. omega (arith, greatest, c.if-number-most.false))

pub returns-in_default-2-clause-found : goal.returns-in_default-2-clause-found
returns-in_default-2-clause-found c = number_out (found_of c.args.options.now) c.args.name.now c.args.most (omega (arith, c.ranges.most)) c.in-Some.number (λ text e. (c.in-Some.ensures.value text e).0)
    (λ least _. omega (arith, least, c.if-number-ge1.false))
