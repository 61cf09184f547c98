use Rattle.std.proofs.Common.{◌≡◌, ◌+◌, ◌*◌, ◌/◌, ◌%◌, get_or, ap, ◌∙◌, arith}
use Rattle.mine_rows.specs.Planes.{has_bit}
use Rattle.mine_rows.proofs.WordLemmas.{words_bit}
use Rattle.mine_rows.proofs.row_words.has_tid.Goals as goal

pub returns : goal.returns
returns c = λ test count are here.
    let tid = c.args.tid in
    let low = tid % 64 in
    let whole : 0 + (tid / 64 * 64 + low) ≡ tid = omega arith in
    ap (has_bit low) (c.word.ensures ∙ ap (λ words. get_or words (tid / 64) 0) are)
    ∙ words_bit test 0 count (tid / 64) low here (omega arith) ∙ ap test whole
