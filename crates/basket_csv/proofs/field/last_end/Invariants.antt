use Rattle.std.proofs.Common.{◌≡◌, ℕ, ◌<◌, get_or, false}
use Rattle.basket_csv.specs.Field.{ends_field}
use Rattle.basket_csv.proofs.field.last_end.Given as goal

abbrev pub invariant-loop-index : goal.invariant-loop-index
invariant-loop-index l = (k : ℕ) → k < l.index → ends_field l.separator (get_or l.text k 0) ≡ false
