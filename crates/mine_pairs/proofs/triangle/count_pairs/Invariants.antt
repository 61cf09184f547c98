use Rattle.std.proofs.Common.{take}
use Rattle.mine_pairs.specs.Pairs.{lists_of}
use Rattle.mine_pairs.specs.Triangle.{HaveCounts}
use Rattle.mine_pairs.proofs.triangle.count_pairs.Given as goal

abbrev pub invariant-loop-index : goal.invariant-loop-index
invariant-loop-index g l = HaveCounts (take l.index (g.B.RankedBaskets.baskets l.baskets)) l.first (lists_of l.rows)
