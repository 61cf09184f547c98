use Rattle.std.specs.Prelude.{bit_and}
use Rattle.std.proofs.Common.{◌+◌, get_or, ap, ◌∙◌}
use Rattle.std.proofs.lemmas.List.{get_or_default}
use Rattle.mine_supports.specs.TidWord.{part_weight, shared_weight}
use Rattle.mine_supports.proofs.TidLemmas.{kept_more, tids_at}
use Rattle.mine_supports.proofs.tid_words.put_kept.Goals as goal

pub loop-part-preserved : goal.loop-part-preserved
loop-part-preserved c =
    let tids = c.args.tids.now in
    let i = c.loop-part.part-index in
    let here = c.loop-part-test.true in
    let part = get_or tids i (tids_at 0 0 0) in
    let old = c.loop-part.kept.items in
    kept_more c.args.row.now tids old c.push_some.new.tids.items i part here (get_or_default tids i (tids_at 0 0 0) part here)
    (λ row. c.in_ok-push_some.ensures row ∙ ap (λ w. shared_weight row old + part_weight row (tids_at part.word (bit_and part.bits w) part.weight)) c.word_of.ensures)
    c.loop-part.invariant
