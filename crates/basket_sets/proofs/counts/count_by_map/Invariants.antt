use Rattle.std.proofs.Common.{◌≡◌, ℕ, take}
use Rattle.std.specs.BTreeMap.{get}
use Rattle.std.specs.Ordering.{nat_cmp}
use Rattle.basket_sets.specs.Counts.{tally}
use Rattle.basket_sets.proofs.counts.count_by_map.Given as goal

abbrev pub invariant-loop-weighted : goal.invariant-loop-weighted
invariant-loop-weighted l = (item : ℕ) → get nat_cmp l.supports item ≡ tally (take l.weighted-index l.baskets) item
