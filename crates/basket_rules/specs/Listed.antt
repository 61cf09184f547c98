-- The list of the frequent sets of a database, and what stands at an index of it.
use Rattle.std.specs.Prelude.{◌≡◌, ℕ, List, [], map, slice_index_or}
use Rattle.basket_core.specs.Listing.{Listing}
use Rattle.basket_sets.specs.declared.weighted.Weighted.{Weighted}
use Rattle.basket_sets.specs.declared.counted.Counted.{Counted}
use Rattle.basket_sets.specs.declared.minimum.Minimum.{Minimum}
use Rattle.basket_sets.specs.Frequent.{frequent_of}
use Rattle.basket_sets.specs.Order.{IsInReportOrder}
use Rattle.basket_sets.specs.Support.{total_of}

-- the listing is that of the baskets and the minimum: their frequent sets, and the weight of all baskets together
pub record IsListingOf (baskets : List Weighted) (minimum : Minimum) (listing : Listing) : Type 0 where
  pub sets : listing.sets ≡ frequent_of baskets minimum
  pub total : listing.total ≡ total_of baskets

-- the sets of a list without their counts
abbrev pub sets_in : List Counted → List (List ℕ)
sets_in list = map (λ c. c.set) list

-- the sets of a list are in report order
abbrev pub IsSorted : List Counted → Type 0
IsSorted list = IsInReportOrder (sets_in list)

-- the set at an index, and its count
abbrev pub set_at : List Counted → ℕ → List ℕ
set_at list index = slice_index_or (sets_in list) index []

abbrev pub count_at : List Counted → ℕ → ℕ
count_at list index = slice_index_or (map (λ c. c.count) list) index 0
