-- Where a set may stand in a list in report order.
use Rattle.std.specs.Prelude.{◌≡◌, ◌≢◌, ◌<◌, ℕ, List, length}
use Rattle.std.specs.List.{AllWithin}
use Rattle.std.specs.declared.cmp.Ordering.TheVariants.{Less, Greater}
use Rattle.basket_sets.specs.declared.counted.Counted.{Counted}
use Rattle.basket_sets.specs.Order.{report_order}
use Rattle.basket_rules.specs.Listed.{IsSorted, set_at}

-- the sets of the list before `start` are smaller than the set, and those from `end` on are greater
pub record IsBetween (start end : ℕ) (list : List Counted) (set : List ℕ) : Type 0 where
  pub smaller : AllWithin (λ c. report_order c.set set ≡ Less) list 0 start
  pub greater : AllWithin (λ c. report_order c.set set ≡ Greater) list end (length list)

-- a sorted list has the set nowhere
abbrev pub IsMissing : List Counted → List ℕ → Type 0
IsMissing list set = IsSorted list → (index : ℕ) → index < length list → set_at list index ≢ set
