-- The supports of items while baskets come.
use Rattle.std.specs.Prelude.{◌≡◌, ◌≤◌, ◌^◌, ℕ, Option, None, List, length, unwrap_or, slice_index_or}
use Rattle.basket_sets.specs.declared.weighted.Weighted.{Weighted}
use Rattle.basket_sets.specs.Counts.{AllBelow, IsTable}
use Rattle.basket_sets.specs.Database.{MOST_WEIGHT}
use Rattle.basket_sets.specs.Support.{all_items, total_of}

-- what a table knows at each number, and what the baskets weigh that it has counted
pub record Tabled : Type 0 where
  pub slots : List (Option ℕ)
  pub total : ℕ

-- no support is above the total, which a database may have, and each number is that of an item
pub record IsBounded (slots : List (Option ℕ)) (total : ℕ) : Type 0 where
  pub supports : (item : ℕ) → unwrap_or (slice_index_or slots item None) 0 ≤ total
  pub light : total ≤ MOST_WEIGHT
  pub few : length slots ≤ 2 ^ 32

-- the table has counted these baskets, and no others
pub record HasCounted (table : Tabled) (baskets : List Weighted) : Type 0 where
  pub slots : IsTable baskets table.slots
  pub within : AllBelow (length table.slots) (all_items baskets)
  pub total : table.total ≡ total_of baskets
