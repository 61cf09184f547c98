use Rattle.std.proofs.Common.{◌≡◌, filter, take}
use Rattle.basket_ranks.specs.Depth.{is_long, narrowed}
use Rattle.basket_ranks.proofs.depth.narrowed_to.Given as goal

abbrev pub invariant-loop-weighted : goal.invariant-loop-weighted
invariant-loop-weighted l = l.rest.items ≡ filter (is_long l.least) (narrowed l.rank (take l.weighted-index l.baskets))
