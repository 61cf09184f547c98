use Rattle.std.proofs.Common.{◌≡◌, map, take}
use Rattle.mine_supports.specs.Needed.{needed}
use Rattle.mine_supports.proofs.block.listed.Given as goal

abbrev pub invariant-loop-basket : goal.invariant-loop-basket
invariant-loop-basket l = map (λ basket. basket.now) l.listed.items ≡ needed l.used l.least (take l.basket-index l.baskets)
