use Rattle.std.proofs.Common.{ap, sym, subst}
use Rattle.basket_read.specs.Fimi.{baskets_of, answer_of, text_of}
use Rattle.basket_read.specs.Fault.{ReturnsBy}
use Rattle.basket_read.specs.GatheredBaskets.{Gathers}
use Rattle.basket_read.proofs.InputLemmas.{text_is}
use Rattle.basket_read.proofs.input.Input.finish.Goals as goal

pub returns-in-Some : goal.returns-in-Some
returns-in-Some c = λ counting bytes r _. ap (λ f. answer_of f (baskets_of (text_of bytes))) (sym (c.in-Some.ensures counting bytes r))

pub returns : goal.returns
returns c = λ counting bytes r.
    let none = sym (c.in_default.ensures counting bytes r) in
    subst (ReturnsBy (Gathers counting) c.finish.result) (sym (ap (λ f. answer_of f (baskets_of (text_of bytes))) none))
    (c.finish.ensures counting (text_of bytes) (text_is c.args.self counting bytes r none))
