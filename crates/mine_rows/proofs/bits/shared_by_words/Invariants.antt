use Rattle.std.proofs.Common.{◌≡◌, ◌+◌, drop}
use Rattle.mine_rows.specs.Bits.{shared_bits}
use Rattle.mine_rows.proofs.bits.shared_by_words.Given as goal

abbrev pub invariant-loop-at : goal.invariant-loop-at
invariant-loop-at l = l.count + shared_bits (drop l.at l.first) (drop l.at l.second) ≡ shared_bits l.first l.second
