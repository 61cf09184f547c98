use Rattle.std.specs.Prelude.{List}
use Rattle.basket_sets.specs.declared.weighted.Weighted.{Weighted}
use Rattle.mine_supports.specs.declared.block.Block.{Block}
use Rattle.mine_supports.specs.Needed.{needed}

-- the baskets of a block that have a tid
abbrev pub numbered : Block → List Weighted
numbered block = needed block.used.now block.least block.baskets.now
