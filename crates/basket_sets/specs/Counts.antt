use Rattle.std.specs.Prelude.{◌≡◌, ◌<◌, ℕ, ◌+◌, Option, Some, None, if◌then◌else◌, List, [], ◌∷◌, map, length, slice_index_or}
use Rattle.basket_sets.specs.declared.weighted.Weighted.{Weighted}
use Rattle.basket_sets.specs.Itemset.{has}
use Rattle.basket_sets.specs.Support.{support_of, all_items, items_of}
pub use Rattle.basket_sets.specs.Itemset.{AllBelow}

-- each item of the baskets with its support, items rising
abbrev pub item_supports : List Weighted → List (ℕ × ℕ)
item_supports baskets = map (λ item. (item, support_of baskets (item ∷ []))) (items_of baskets)

-- the support of an item that is in some basket, and nothing for another number
abbrev pub tally : List Weighted → ℕ → Option ℕ
tally baskets item = if has (all_items baskets) item then Some (support_of baskets (item ∷ [])) else None

-- a table has at each number what is known of it
abbrev pub IsTable : List Weighted → List (Option ℕ) → Type 0
IsTable baskets table = (item : ℕ) → item < length table → slice_index_or table item None ≡ tally baskets item

-- the entries of a table whose first slot has a number: each slot that has something, with its number
abbrev pub entries_from : ℕ → List (Option ℕ) → List (ℕ × ℕ)
entries_from number [] = []
entries_from number (None ∷ slots) = entries_from (number + 1) slots
entries_from number (Some support ∷ slots) = (number, support) ∷ entries_from (number + 1) slots

abbrev pub entries_of : List (Option ℕ) → List (ℕ × ℕ)
entries_of table = entries_from 0 table
