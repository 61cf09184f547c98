use Rattle.std.proofs.Common.{◌≡◌, ◌≤◌, length}
use Rattle.std.specs.List.{flat_map, range_with_len}
use Rattle.mine_pairs.specs.Triangle.{ranks_in}
use Rattle.mine_phases.proofs.ranges.cut.Given as goal

abbrev pub invariant-loop-rank : goal.invariant-loop-rank
invariant-loop-rank l = record {
  whole : flat_map ranks_in l.ranges.items ≡ range_with_len 0 l.first;
  few : length l.ranges.items ≤ l.first;
  low : l.first ≤ l.rank;
  last : l.rank ≡ length l.steps → l.first ≡ l.rank;
}
