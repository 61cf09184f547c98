-- Baskets of the ranks that stand in a list, by their indexes there, their local numbers, which stand in a table.
use Rattle.std.specs.Prelude.{◌≡◌, ◌<◌, ℕ, List, Option, Some, None, length, slice_index, slice_index_or, false}
use Rattle.std.specs.List.{filter_map}
use Rattle.basket_sets.specs.declared.weighted.Weighted.{Weighted}
use Rattle.basket_sets.specs.Database.{weighted}
use Rattle.basket_sets.specs.Itemset.{has}

-- a table has at each rank of a list what is made of its index there, and at other ranks what is made of none
pub record HasNumbers {T : Type 0} (made_of : Option ℕ → T) (ranks : List ℕ) (table : List T) : Type 0 where
  pub at : (k : ℕ) → k < length ranks → slice_index_or table (slice_index ranks k) (made_of None) ≡ made_of (Some k)
  pub none : (rank : ℕ) → has ranks rank ≡ false → slice_index_or table rank (made_of None) ≡ made_of None

-- the index itself
abbrev pub AreNumbers : List ℕ → List (Option ℕ) → Type 0
AreNumbers ranks numbers = HasNumbers (λ number. number) ranks numbers

-- the numbers that a table has for the ranks of a basket
abbrev pub table_numbers : List (Option ℕ) → List ℕ → List ℕ
table_numbers of basket = filter_map (λ rank. slice_index_or of rank None) basket

-- a basket as these numbers
abbrev pub by_table : List (Option ℕ) → Weighted → Weighted
by_table of basket = weighted (table_numbers of basket.basket) basket.weight
