use Rattle.std.proofs.Common.{ℕ, List, take}
use Rattle.mine_supports.specs.BlockCounts.{numbered}
use Rattle.mine_supports.specs.Counter.{AreAdded}
use Rattle.mine_supports.specs.Extensions.{extend}
use Rattle.mine_supports.specs.TidWord.{AreTidsOf}
use Rattle.mine_supports.proofs.block.Block.add_sums.Given as goal

abbrev pub invariant-loop-number : goal.invariant-loop-number
invariant-loop-number l = (set : List ℕ) → AreTidsOf (numbered l.self) set l.tids → AreAdded (extend set (take l.number l.items)) (numbered l.self) l.start l.initial.counts l.counts
