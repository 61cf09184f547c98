use Rattle.std.proofs.Common.{take}
use Rattle.mine_pairs.specs.Pairs.{lists_of}
use Rattle.mine_pairs.specs.Triangle.{WithPairs}
use Rattle.mine_pairs.proofs.triangle.count_basket.Given as goal

abbrev pub invariant-loop-index : goal.invariant-loop-index
invariant-loop-index l = WithPairs l.first (take l.index l.ranks) l.ranks l.weight (lists_of l.initial.rows) (lists_of l.rows)
