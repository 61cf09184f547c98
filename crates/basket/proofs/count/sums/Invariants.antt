use Rattle.std.proofs.Common.{◌≡◌, drop, map, take}
use Rattle.basket.specs.Count.{counted_in, first_uncounted}
use Rattle.basket.proofs.count.sums.Given as goal

abbrev pub invariant-loop-nth : goal.invariant-loop-nth
invariant-loop-nth l = record {
  counted : l.counted.items ≡ map (counted_in l.combined) (take l.nth l.sets);
  after : first_uncounted l.combined 0 l.sets ≡ first_uncounted l.combined l.nth (drop l.nth l.sets);
}
