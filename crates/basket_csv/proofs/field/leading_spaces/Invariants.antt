use Rattle.std.proofs.Common.{◌≡◌, ℕ, ◌<◌, get_or, true}
use Rattle.basket_csv.specs.Field.{is_space}
use Rattle.basket_csv.proofs.field.leading_spaces.Given as goal

abbrev pub invariant-loop-index : goal.invariant-loop-index
invariant-loop-index l = (k : ℕ) → k < l.index → is_space (get_or l.bytes k 0) ≡ true
