use Rattle.std.proofs.Common.{ℕ, List, take}
use Rattle.mine_supports.specs.BlockCounts.{placed}
use Rattle.mine_supports.specs.Counter.{AreAdded}
use Rattle.mine_supports.specs.Extensions.{extend}
use Rattle.mine_supports.specs.TidWord.{ArePlacesOf}
use Rattle.mine_supports.proofs.block.Block.add_weights.Given as goal

abbrev pub invariant-loop-number : goal.invariant-loop-number
invariant-loop-number l = (set : List ℕ) → ArePlacesOf (placed l.self) set l.places → AreAdded (extend set (take l.number l.items)) (placed l.self) l.start l.initial.counts l.counts
