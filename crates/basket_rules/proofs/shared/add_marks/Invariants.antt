use Rattle.std.proofs.Common.{◌≡◌, ◌<◌, ◌≤◌, ◌||◌, ℕ, false, get_or, length}
use Rattle.basket_rules.proofs.shared.add_marks.Given as goal

abbrev pub invariant-loop-number : goal.invariant-loop-number
invariant-loop-number l = record {
  long : length l.marks ≡ length l.fn.marks;
  done : (number : ℕ) → number < l.number → get_or l.marks number false ≡ get_or l.others number false || get_or l.fn.marks number false;
  left : (number : ℕ) → l.number ≤ number → get_or l.marks number false ≡ get_or l.fn.marks number false;
}
