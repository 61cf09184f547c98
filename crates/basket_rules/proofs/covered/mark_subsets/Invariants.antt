use Rattle.std.proofs.Common.{◌≡◌, ℕ, length}
use Rattle.basket_rules.specs.Covered.{AreMarks, IsBetween, WasSeen}
use Rattle.basket_rules.proofs.covered.mark_subsets.Given as goal

abbrev pub invariant-loop-index : goal.invariant-loop-index
invariant-loop-index l = record {
  long : length l.marks ≡ length l.fn.marks;
  marked : (from : ℕ) → AreMarks l.sets l.supersets (IsBetween from l.fn.number) l.fn.marks → AreMarks l.sets l.supersets (WasSeen from l.fn.number l.index) l.marks;
}
