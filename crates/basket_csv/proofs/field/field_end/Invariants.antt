use Rattle.std.proofs.Common.{◌≡◌, ℕ, ◌<◌, ◌≤◌, ◌-◌, length, get_or, false}
use Rattle.basket_csv.specs.Field.{ends_field}
use Rattle.basket_csv.proofs.field.field_end.Given as goal

abbrev pub invariant-lanes : goal.invariant-lanes
invariant-lanes l = record {
  within : l.end ≤ length l.text;
  inside : (k : ℕ) → k < l.end → ends_field l.separator (get_or l.text k 0) ≡ false;
}

abbrev pub decreases-lanes : goal.decreases-lanes
decreases-lanes l = length l.text - l.end
