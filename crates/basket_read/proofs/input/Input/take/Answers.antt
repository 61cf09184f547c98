use Rattle.std.proofs.Common.{◌++◌, ◌-◌, take, drop, length, subst, ap, ◌∙◌, arith}
use Rattle.std.proofs.lemmas.List.{take_all, length-drop}
use Rattle.std.proofs.lemmas.Result.{err_from_is_err_and}
use Rattle.std.specs.Prelude.{MatchResult}
use Rattle.basket_read.specs.Fimi.{settled_fault}
use Rattle.basket_read.specs.Fault.{ReturnsFault}
use Rattle.basket_read.specs.Input.{IsInputSoFar}
use Rattle.basket_read.proofs.TextLemmas.{take_rest}
use Rattle.basket_read.proofs.theory.Grammar.{take_next}
use Rattle.basket_read.proofs.InputLemmas.{settled_in_piece}
use Rattle.basket_read.proofs.input.Input.take.Goals as goal

pub returns-then-self : goal.returns-then-self
returns-then-self g c = λ counting bytes r.
    subst (λ l. MatchResult c.take_text.result (λ _. IsInputSoFar c.take_text.new.self counting l) (λ fault. ReturnsFault fault (settled_fault l)))
    (ap (λ l. (bytes ++ take c.loop-index.index c.args.piece.now) ++ l)
    (take_all (length c.args.piece.now - c.loop-index.index) (drop c.loop-index.index c.args.piece.now) (omega (arith, length-drop c.loop-index.index c.args.piece.now)))
    ∙ take_rest bytes c.args.piece.now c.loop-index.index)
    (c.take_text.ensures counting (bytes ++ take c.loop-index.index c.args.piece.now) (c.loop-index.invariant counting bytes r))

pub returns-in_err-take_byte : goal.returns-in_err-take_byte
returns-in_err-take_byte g c = λ counting bytes r.
    let p = err_from_is_err_and c.from_residual.result c.from_residual.ensures.1 in
    rw (p.1, p.2) (settled_in_piece bytes c.args.piece.now c.loop-index.index c.in_err-take_byte.field-0.0 c.loop-index-test.true
    (c.in_err-take_byte.ensures counting (bytes ++ take c.loop-index.index c.args.piece.now) (c.loop-index.invariant counting bytes r)))

pub loop-index-preserved : goal.loop-index-preserved
loop-index-preserved g c = λ counting bytes r.
    subst (IsInputSoFar c.take_byte.new.self counting) (take_next bytes c.args.piece.now c.loop-index.index c.loop-index-test.true)
    (c.in_ok-take_byte.ensures counting (bytes ++ take c.loop-index.index c.args.piece.now) (c.loop-index.invariant counting bytes r))

pub returns : goal.returns
returns g c = λ counting bytes r.
    subst (λ l. IsInputSoFar c.loop-index.self counting (bytes ++ l)) (take_all c.loop-index.index c.args.piece.now (omega (arith, c.loop-index-test.false))) (c.loop-index.invariant counting bytes r)
