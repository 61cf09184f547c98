use Rattle.basket_counts.proofs.HalvesLemmas.{front_fault, rest_fault, joined}
use Rattle.std.proofs.lemmas.Result.{err_from_is_err_and}
use Rattle.basket_counts.proofs.halves.+halves.Goals as goal

pub returns-in_err-listed : goal.returns-in_err-listed
returns-in_err-listed g t c =
    let p = err_from_is_err_and c.from_residual.result c.from_residual.ensures.1 in
    rw (p.1, p.2) (front_fault c.args.before c.args.bytes.now _ _ c.in-Some.end c.split_at.ensures.front c.split_at.ensures.back c.in-Some.ensures.ends
    _ c.join-later.ensures.second c.in_err-listed.field-0.0 c.in_err-listed.was)

pub returns-in_err-later : goal.returns-in_err-later
returns-in_err-later g t c =
    let p = err_from_is_err_and c.from_residual-in_err-later.result c.from_residual-in_err-later.ensures.1 in
    rw (p.1, p.2) (rest_fault c.args.before c.args.bytes.now _ _ c.in-Some.end c.split_at.ensures.front c.split_at.ensures.back c.in-Some.ensures.ends
    _ c.join-later.ensures.second _ c.join-later.ensures.first c.in_ok-listed.listed c.in_ok-listed.was c.in_err-later.field-0.0 c.in_err-later.was)

pub returns : goal.returns
returns g t c =
    joined c.args.before c.args.bytes.now _ _ c.in-Some.end c.split_at.ensures.front c.split_at.ensures.back c.in-Some.ensures.ends
    _ c.join-later.ensures.second _ c.join-later.ensures.first c.in_ok-listed.listed c.in_ok-listed.was c.in_ok-later.field-0 c.append.new.self c.in_ok-later.was c.in_ok-append.ensures
