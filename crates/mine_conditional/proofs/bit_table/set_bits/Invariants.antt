use Rattle.std.proofs.Common.{take}
use Rattle.mine_conditional.specs.BitTable.{AreBits}
use Rattle.mine_conditional.proofs.bit_table.set_bits.Given as goal

abbrev pub invariant-loop-at : goal.invariant-loop-at
invariant-loop-at l = AreBits (take l.at l.kept) l.of
