use Rattle.std.proofs.Common.{◌≡◌, get_or, map, take}
use Rattle.mine_vertical.proofs.local_baskets.items_at.Given as goal

abbrev pub invariant-loop-index : goal.invariant-loop-index
invariant-loop-index g l = (none : _) → l.chosen.items ≡ map (λ index. get_or l.items index none) (take l.index-index l.indexes)
