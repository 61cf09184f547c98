use Rattle.std.proofs.Common.{◌++◌, [], take-append-drop, Ok, ap, ◌∙◌, sym, subst}
use Rattle.std.proofs.lemmas.Result.{IfOk-weaker, err_from_is_err_and}
use Rattle.basket_read.specs.Cut.{cut_at}
use Rattle.basket_read.specs.Fimi.{is_line_feed}
use Rattle.basket_read.specs.Text.{IsTextSoFar}
use Rattle.basket_read.proofs.TextLemmas.{stops_in_prefix, goes_on_with_rest, if_ok}
use Rattle.basket_read.proofs.lines.+halves.Goals as goal

pub feed_shared-returns-in_err-text : goal.feed_shared-returns-in_err-text
feed_shared-returns-in_err-text g t c =
    let p = err_from_is_err_and c.from_residual.result c.from_residual.ensures.1 in
    let whole = (λ i. c.split_at.ensures.front i ++ c.split_at.ensures.back i) ∙ take-append-drop c.in-Some.end c.args.piece.now in
    rw (p.1, p.2) (stops_in_prefix c.args.text _ _ c.args.piece.now _ c.feed_halves-text.ensures.prefix whole c.in_err-text.field-0.0 c.in_err-text.was)

pub feed_shared-returns-then-branch : goal.feed_shared-returns-then-branch
feed_shared-returns-then-branch g t c =
    let prefix = c.split_at.result.0.now in
    let rest = c.split_at.result.1.now in
    let whole = (λ i. c.split_at.ensures.front i ++ c.split_at.ensures.back i) ∙ take-append-drop c.in-Some.end c.args.piece.now in
    goes_on_with_rest c.args.text prefix rest c.args.piece.now _ c.feed_halves-text.ensures.prefix whole _ (Ok c.append.new.self) c.in_ok-text.was (λ counting bytes so_far.
    c.in_ok-append.ensures.text counting (bytes ++ prefix) rest so_far (ap (λ l. (cut_at is_line_feed (bytes ++ l)).last) c.split_at.ensures.front ∙ c.in-Some.ensures.ends bytes)
    c.feed_halves-text.ensures.rest c.if-branch.true)

pub feed_shared-returns : goal.feed_shared-returns
feed_shared-returns g t c =
    let prefix = c.split_at.result.0.now in
    let rest = c.split_at.result.1.now in
    let whole = (λ i. c.split_at.ensures.front i ++ c.split_at.ensures.back i) ∙ take-append-drop c.in-Some.end c.args.piece.now in
    goes_on_with_rest c.args.text prefix rest c.args.piece.now _ c.feed_halves-text.ensures.prefix whole _ c.fed-2.result c.in_ok-text.was (λ counting bytes so_far.
    c.fed-2.ensures counting (bytes ++ prefix) (subst (λ text. IsTextSoFar text counting (bytes ++ prefix)) (sym (c.in_ok-append.ensures.left c.if-branch.false)) so_far))

pub feed_halves-join+arg2-returns : goal.feed_halves-join+arg2-returns
feed_halves-join+arg2-returns g t c =
    IfOk-weaker c.feed_shared.result _ _ (λ read so_far. (c.captures.counting, so_far)) (if_ok c.feed_shared.result _ _ (c.feed_shared.ensures c.captures.counting [] c.new.ensures))
