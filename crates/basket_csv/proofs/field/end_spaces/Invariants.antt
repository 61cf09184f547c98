use Rattle.std.proofs.Common.{◌≡◌, ℕ, ◌<◌, ◌≤◌, length, get_or, true}
use Rattle.basket_csv.specs.Field.{is_space}
use Rattle.basket_csv.proofs.field.end_spaces.Given as goal

abbrev pub invariant-loop-end : goal.invariant-loop-end
invariant-loop-end l = record {
  within : l.end ≤ length l.bytes;
  spaces : (k : ℕ) → l.end ≤ k → k < length l.bytes → is_space (get_or l.bytes k 0) ≡ true;
}

abbrev pub decreases-loop-end : goal.decreases-loop-end
decreases-loop-end l = l.end
