use Rattle.std.proofs.Common.{◌≡◌, map}
use Rattle.std.specs.List.{range_with_len}
use Rattle.mine_pairs.specs.Pairs.{lists_of}
use Rattle.mine_pairs.specs.Triangle.{zeros}
use Rattle.mine_pairs.proofs.triangle.no_counts.Given as goal

abbrev pub invariant-loop-number : goal.invariant-loop-number
invariant-loop-number l = lists_of l.rows.items ≡ map zeros (range_with_len l.range.first l.number)
