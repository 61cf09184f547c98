use Rattle.std.proofs.Common.{◌≡◌, ◌+◌, drop, length, take}
use Rattle.std.specs.Prelude.{bit_and}
use Rattle.std.specs.Simd.Lanes.{zip2}
use Rattle.mine_rows.specs.Bits.{shared_bits}
use Rattle.mine_rows.proofs.bits.put_shared.Given as goal

abbrev pub invariant-loop-at : goal.invariant-loop-at
invariant-loop-at l = record {
  long : length l.words ≡ length l.x;
  ones : l.ones + shared_bits (drop l.at l.x) (drop l.at l.y) ≡ shared_bits l.x l.y;
  made : take l.at l.words ≡ zip2 bit_and (take l.at l.x) (take l.at l.y);
}
