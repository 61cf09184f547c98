use Rattle.mine_conditional.proofs.ShiftLemmas.{shift_more}
use Rattle.mine_conditional.proofs.shift.shift_all.Goals as goal

pub loop-shift-preserved : goal.loop-shift-preserved
loop-shift-preserved c = shift_more c.args.bits c.args.shifts.now c.loop-shift.shift-index c.loop-shift.moved (record { by = 0; mask = 0 }) c.loop-shift-test.true c.loop-shift.invariant
