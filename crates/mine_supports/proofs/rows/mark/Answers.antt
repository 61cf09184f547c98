use Rattle.std.proofs.Common.{refl, arith, get_or}
use Rattle.mine_supports.proofs.RowLemmas.{marked_more, set_bit}
use Rattle.mine_supports.proofs.rows.mark.Goals as goal

pub loop-number-preserved : goal.loop-number-preserved
loop-number-preserved c =
    let i = c.loop-number.number-index in
    let here = c.loop-number-test.true in
    let row = c.requires.long i 0 here in
    marked_more c.args.words c.args.tid c.args.numbers.now i c.args.bits.now c.loop-number.bits _ here c.loop-number.invariant
    (set_bit c.args.words c.args.tid (get_or c.args.numbers.now i 0) _ _ c.loop-number.bits (omega (arith, row, c.loop-number.auto.bits)) c.requires.within refl refl)
