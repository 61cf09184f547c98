use Rattle.std.proofs.Common.{◌++◌, ℕ, List, take}
use Rattle.mine_supports.specs.BlockCounts.{numbered}
use Rattle.mine_supports.specs.TidWord.{AreTidsOf}
use Rattle.mine_supports.proofs.block.Block.kept_by_all.Given as goal

abbrev pub invariant-loop-item : goal.invariant-loop-item
invariant-loop-item l = (set : List ℕ) → AreTidsOf (numbered l.self) set l.tids → AreTidsOf (numbered l.self) (set ++ take l.item-index l.items) l.shared.items
