-- The greatest support of an item.
use Rattle.std.specs.Prelude.{ℕ, List, max}
use Rattle.std.specs.List.{fold}
use Rattle.basket_sets.specs.declared.weighted.Weighted.{Weighted}
use Rattle.basket_sets.specs.Counts.{item_supports}

-- the greatest of the counts of items, or 0 if there is none
abbrev pub greatest_of : List (ℕ × ℕ) → ℕ
greatest_of counts = fold (λ greatest entry. max greatest entry.1) 0 counts

-- the greatest support of an item of a database
abbrev pub greatest_support : List Weighted → ℕ
greatest_support baskets = greatest_of (item_supports baskets)
