use Rattle.std.proofs.Common.{take}
use Rattle.mine_conditional.specs.LocalNumbers.{AreNumbers}
use Rattle.mine_conditional.proofs.local_numbers.put.Given as goal

abbrev pub invariant-loop-at : goal.invariant-loop-at
invariant-loop-at l = AreNumbers (take l.at l.kept) l.of
