use Rattle.std.proofs.Common.{◌≡◌, ◌+◌, drop, length}
use Rattle.std.specs.Simd.Lanes.{sum_l}
use Rattle.mine_rows.specs.Bits.{shared_in_chunks}
use Rattle.mine_rows.proofs.bits.shared_by_lanes.Given as goal

abbrev pub invariant-loop-at : goal.invariant-loop-at
invariant-loop-at l = record {
  wide : length l.lanes ≡ 4;
  counted : sum_l l.lanes + shared_in_chunks (drop l.at l.first) (drop l.at l.second) ≡ shared_in_chunks l.first l.second;
}
