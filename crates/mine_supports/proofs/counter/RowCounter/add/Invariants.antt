use Rattle.std.proofs.Common.{◌-◌, ◌≤◌, length, take}
use Rattle.mine_supports.specs.Counter.{WithSupports}
use Rattle.mine_supports.proofs.counter.RowCounter.add.Given as goal

abbrev pub invariant-loop-start : goal.invariant-loop-start
invariant-loop-start l = record {
  within : l.start ≤ length l.baskets;
  added : WithSupports l.self (take l.start l.baskets) l.initial.counts l.counts;
}

abbrev pub decreases-loop-start : goal.decreases-loop-start
decreases-loop-start l = length l.baskets - l.start
