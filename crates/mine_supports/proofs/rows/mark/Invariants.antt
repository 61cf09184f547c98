use Rattle.std.proofs.Common.{take}
use Rattle.mine_supports.proofs.RowLemmas.{AreMarkedAt}
use Rattle.mine_supports.proofs.rows.mark.Given as goal

abbrev pub invariant-loop-number : goal.invariant-loop-number
invariant-loop-number l = AreMarkedAt l.words l.tid (take l.number-index l.numbers) l.initial.bits l.bits
