use Rattle.std.proofs.Common.{◌≡◌, take}
use Rattle.mine_conditional.specs.BitTable.{table_bits}
use Rattle.mine_conditional.proofs.bit_table.bits_of.Given as goal

abbrev pub invariant-loop-rank : goal.invariant-loop-rank
invariant-loop-rank l = l.bits ≡ table_bits l.of (take l.rank-index l.basket)
