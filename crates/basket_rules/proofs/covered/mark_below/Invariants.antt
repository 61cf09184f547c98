use Rattle.std.proofs.Common.{◌≡◌, ℕ, length}
use Rattle.basket_rules.specs.Covered.{AreMarks, IsBetween}
use Rattle.basket_rules.proofs.covered.mark_below.Given as goal

abbrev pub invariant-loop-number : goal.invariant-loop-number
invariant-loop-number l = record {
  long : length l.marks ≡ length l.fn.marks;
  marked : (from : ℕ) → AreMarks l.fn.covering.sets.now l.fn.covering.supersets (IsBetween from l.fn.start) l.fn.marks → AreMarks l.fn.covering.sets.now l.fn.covering.supersets (IsBetween from l.number) l.marks;
}
