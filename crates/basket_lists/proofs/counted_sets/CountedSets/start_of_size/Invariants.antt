use Rattle.std.proofs.Common.{length, ◌-◌, ◌≤◌}
use Rattle.basket_lists.proofs.counted_sets.CountedSets.start_of_size.Given as goal

abbrev pub invariant-loop-start : goal.invariant-loop-start
invariant-loop-start l = record {
  ordered : l.start ≤ l.end;
  within : l.end ≤ length l.self;
}

abbrev pub decreases-loop-start : goal.decreases-loop-start
decreases-loop-start l = l.end - l.start
