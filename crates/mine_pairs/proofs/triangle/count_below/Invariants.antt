use Rattle.std.proofs.Common.{take}
use Rattle.mine_pairs.specs.Sums.{WithBasket}
use Rattle.mine_pairs.proofs.triangle.count_below.Given as goal

abbrev pub invariant-loop-rank : goal.invariant-loop-rank
invariant-loop-rank l = WithBasket (take l.rank-index l.ranks) l.weight l.initial.row l.row
