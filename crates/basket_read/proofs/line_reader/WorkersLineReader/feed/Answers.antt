use Rattle.std.proofs.Common.{sym, subst}
use Rattle.std.proofs.lemmas.Result.{err_from_is_err_and}
use Rattle.basket_read.specs.Text.{IsTextSoFar}
use Rattle.basket_read.proofs.line_reader.WorkersLineReader.feed.Goals as goal

pub returns-in_err-text : goal.returns-in_err-text
returns-in_err-text g c = λ counting bytes t.
    let p = err_from_is_err_and c.from_residual.result c.from_residual.ensures.1 in
    rw (p.1, p.2) (c.in_err-text.ensures counting bytes (subst (λ text. IsTextSoFar text counting bytes) (sym c.replace-before.ensures.value) t))

pub returns : goal.returns
returns g c = λ counting bytes t. c.in_ok-text.ensures counting bytes (subst (λ text. IsTextSoFar text counting bytes) (sym c.replace-before.ensures.value) t)
