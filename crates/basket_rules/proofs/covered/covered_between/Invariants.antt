use Rattle.std.proofs.Common.{◌-◌, ◌≤◌}
use Rattle.basket_rules.specs.Covered.{AreMarks, IsBetween}
use Rattle.basket_rules.proofs.covered.covered_between.Given as goal

abbrev pub invariant-loop-start : goal.invariant-loop-start
invariant-loop-start l = record {
  after : l.fn.from ≤ l.start;
  within : l.start ≤ l.fn.end;
  marked : AreMarks l.fn.covering.sets.now l.fn.covering.supersets (IsBetween l.fn.from l.start) l.marks.items;
}

abbrev pub decreases-loop-start : goal.decreases-loop-start
decreases-loop-start l = l.fn.end - l.start
