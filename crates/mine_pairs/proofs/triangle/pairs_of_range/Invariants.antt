use Rattle.std.proofs.Common.{◌≡◌, map}
use Rattle.std.specs.List.{range_with_len}
use Rattle.mine_pairs.specs.Pairs.{lists_of, pairs_of}
use Rattle.mine_pairs.proofs.triangle.pairs_of_range.Given as goal

abbrev pub invariant-loop-row : goal.invariant-loop-row
invariant-loop-row g l = lists_of l.lists.items ≡ map (pairs_of (g.B.RankedBaskets.baskets l.baskets) l.least) (range_with_len l.fn.range.first l.row-index)
