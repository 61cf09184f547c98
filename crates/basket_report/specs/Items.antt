-- The report of the frequent items.
use Rattle.std.specs.Prelude.{ℕ, List, filter, map}
use Rattle.basket_sets.specs.declared.counted.Counted.{Counted}
use Rattle.basket_sets.specs.declared.minimum.Minimum.{Minimum}
use Rattle.basket_sets.specs.Frequent.{item_counted}
use Rattle.basket_sets.specs.Minimum.{meets}

-- the items of some counts that meet a minimum, as sets of one item
abbrev pub items_met : List (ℕ × ℕ) → Minimum → ℕ → List Counted
items_met counts minimum total = map item_counted (filter (λ entry. meets minimum entry.1 total) counts)
