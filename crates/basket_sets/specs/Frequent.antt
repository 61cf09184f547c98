use Rattle.std.specs.Prelude.{◌≡◌, ◌≢◌, ◌↔◌, ℕ, Bool, IsTrue, List, [], ◌∷◌, length, ◌==◌, map, filter, All, nat_eq}
use Rattle.std.specs.Cmp.Lexicographic.{pointwise}
use Rattle.std.specs.List.{Contains, IsDistinct}
use Rattle.basket_sets.specs.declared.weighted.Weighted.{Weighted}
use Rattle.basket_sets.specs.declared.counted.Counted.{Counted}
use Rattle.basket_sets.specs.declared.minimum.Minimum.{Minimum}
use Rattle.basket_sets.specs.Counts.{item_supports}
use Rattle.basket_sets.specs.Database.{merged_of}
use Rattle.basket_sets.specs.Itemset.{IsRising, contains}
use Rattle.basket_sets.specs.Minimum.{meets}
use Rattle.basket_sets.specs.Order.{IsInReportOrder}
use Rattle.basket_sets.specs.Subsets.{subsets_of}
use Rattle.basket_sets.specs.Support.{support_of, total_of, items_of}

-- whether the set's support meets the minimum
abbrev pub is_frequent : List Weighted → Minimum → List ℕ → Bool
is_frequent baskets minimum set = meets minimum (support_of baskets set) (total_of baskets)

-- the set with its support
abbrev pub counted : List Weighted → List ℕ → Counted
counted baskets set = record { set = set; count = support_of baskets set }

-- the frequent sets: the sets of items that meet the minimum, each with its support, in report order
abbrev pub frequent_of : List Weighted → Minimum → List Counted
frequent_of baskets minimum = map (counted baskets) (filter (is_frequent baskets minimum) (subsets_of (items_of baskets)))

-- each subset of a set that meets the minimum meets it
abbrev pub SubsetsAreFrequent : Type 0
SubsetsAreFrequent = (baskets : List Weighted) (minimum : Minimum) (set subset : List ℕ) →
    IsTrue (contains set subset) → IsTrue (is_frequent baskets minimum set) → IsTrue (is_frequent baskets minimum subset)

-- a set that meets a minimum has only items of the database
abbrev pub FrequentSetsHaveItems : Type 0
FrequentSetsHaveItems = (baskets : List Weighted) (minimum : Minimum) (set : List ℕ) →
    IsTrue (is_frequent baskets minimum set) → IsTrue (contains (items_of baskets) set)

-- a set that may be asked for: it has an item, and its items rise
abbrev pub IsNonemptySet : List ℕ → Type 0
IsNonemptySet set = IsRising set × (set ≢ [])

-- the list has exactly the nonempty sets that meet the minimum, each with its support, in report order
pub record ListsFrequent (baskets : List Weighted) (minimum : Minimum) (list : List Counted) : Type 0 where
  pub in_order : IsInReportOrder (map (λ c. c.set) list)
  pub sound : All (λ c. IsNonemptySet c.set × IsTrue (is_frequent baskets minimum c.set) × (c.count ≡ support_of baskets c.set)) list
  pub complete : (set : List ℕ) → IsNonemptySet set → IsTrue (is_frequent baskets minimum set) → Contains list (counted baskets set)

-- the list has each nonempty set that meets the minimum once, with its support, in any order
pub record ListsOnce (baskets : List Weighted) (minimum : Minimum) (list : List Counted) : Type 0 where
  pub distinct : IsDistinct (pointwise nat_eq) (map (λ c. c.set) list)
  pub sound : All (λ c. IsNonemptySet c.set × IsTrue (is_frequent baskets minimum c.set) × (c.count ≡ support_of baskets c.set)) list
  pub complete : (set : List ℕ) → IsNonemptySet set → IsTrue (is_frequent baskets minimum set) → Contains list (counted baskets set)

-- the list of the frequent sets is the only such list
abbrev pub FrequentIsUnique : Type 0
FrequentIsUnique = (baskets : List Weighted) (minimum : Minimum) (list : List Counted) → ListsFrequent baskets minimum list ↔ (list ≡ frequent_of baskets minimum)

-- the frequent items: the frequent sets of one item
abbrev pub frequent_items_of : List Weighted → Minimum → List Counted
frequent_items_of baskets minimum = filter (λ c. length c.set == 1) (frequent_of baskets minimum)

-- an item and its support, as a set with its count
abbrev pub item_counted : ℕ × ℕ → Counted
item_counted entry = record { set = entry.0 ∷ []; count = entry.1 }

-- the frequent items are the items whose supports meet the minimum
abbrev pub FrequentItemsAreCounted : Type 0
FrequentItemsAreCounted = (baskets : List Weighted) (minimum : Minimum) →
    frequent_items_of baskets minimum ≡ map item_counted (filter (λ entry. meets minimum entry.1 (total_of baskets)) (item_supports baskets))

-- merging equal baskets keeps the frequent sets
abbrev pub MergingKeepsFrequent : Type 0
MergingKeepsFrequent = (baskets : List Weighted) (minimum : Minimum) → frequent_of (merged_of baskets) minimum ≡ frequent_of baskets minimum
