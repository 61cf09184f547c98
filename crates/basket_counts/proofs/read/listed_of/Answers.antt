use Rattle.std.proofs.lemmas.Result.{err_from_is_err_and}
use Rattle.basket_counts.proofs.ReadLemmas.{faulty, faultless, too_long}
use Rattle.basket_counts.proofs.read.listed_of.Goals as goal

pub returns-in_err-listed-clause-said : goal.returns-in_err-listed-clause-said
returns-in_err-listed-clause-said g c =
    let p = err_from_is_err_and c.from_residual.result c.from_residual.ensures.1 in
    rw (p.1, p.2) (faulty _ _ _ c.text_of.ensures c.min-most.ensures c.in_err-listed.field-0.0 c.in_err-listed.ensures)

pub returns-clause-said : goal.returns-clause-said
returns-clause-said g c = faultless _ _ _ c.text_of.ensures c.min-most.ensures _ c.if-most-bytes.false c.in_ok-listed.ensures

pub returns-then-most-bytes-clause-said : goal.returns-then-most-bytes-clause-said
returns-then-most-bytes-clause-said g c = λ _. too_long _ _ _ c.text_of.ensures c.min-most.ensures c.if-most-bytes.true c.in_ok-listed.ensures.0
