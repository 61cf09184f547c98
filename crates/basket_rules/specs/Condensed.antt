-- Closed and maximal sets.
use Rattle.std.specs.Prelude.{◌≡◌, ℕ, Bool, IsTrue, not, ◌&&◌, ◌==◌, List, map, filter}
use Rattle.std.specs.List.{list_all}
use Rattle.basket_core.specs.Listing.{Listing}
use Rattle.basket_sets.specs.declared.weighted.Weighted.{Weighted}
use Rattle.basket_sets.specs.declared.counted.Counted.{Counted}
use Rattle.basket_sets.specs.declared.minimum.Minimum.{Minimum}
use Rattle.basket_sets.specs.Frequent.{is_frequent, frequent_of, IsNonemptySet}
use Rattle.basket_sets.specs.Itemset.{has, contains, with_item}
use Rattle.basket_sets.specs.Subsets.{subsets_of}
use Rattle.basket_sets.specs.Support.{support_of, items_of}
use Rattle.basket_rules.specs.Listed.{IsListingOf}

-- whether a set has all items of another and some more
abbrev pub is_proper_superset : List ℕ → List ℕ → Bool
is_proper_superset other set = contains other set && not (contains set other)

-- the sets of items that are proper supersets of the set
abbrev pub supersets_of : List Weighted → List ℕ → List (List ℕ)
supersets_of baskets set = filter (λ other. is_proper_superset other set) (subsets_of (items_of baskets))

-- whether none of some sets has the support of the set
abbrev pub none_supported_alike : List Weighted → List ℕ → List (List ℕ) → Bool
none_supported_alike baskets set others = list_all (λ other. not (support_of baskets other == support_of baskets set)) others

-- whether none of some sets meets the minimum
abbrev pub none_frequent : List Weighted → Minimum → List (List ℕ) → Bool
none_frequent baskets minimum others = list_all (λ other. not (is_frequent baskets minimum other)) others

-- a set is closed where no proper superset has its support, and maximal where no proper superset is frequent
abbrev pub is_closed : List Weighted → List ℕ → Bool
is_closed baskets set = none_supported_alike baskets set (supersets_of baskets set)

abbrev pub is_maximal : List Weighted → Minimum → List ℕ → Bool
is_maximal baskets minimum set = none_frequent baskets minimum (supersets_of baskets set)

-- the closed and the maximal ones of the frequent sets, in report order
abbrev pub closed_of : List Weighted → Minimum → List Counted
closed_of baskets minimum = filter (λ c. is_closed baskets c.set) (frequent_of baskets minimum)

abbrev pub maximal_of : List Weighted → Minimum → List Counted
maximal_of baskets minimum = filter (λ c. is_maximal baskets minimum c.set) (frequent_of baskets minimum)

-- whether a list has no proper superset of the set with its count, and whether it has none at all
abbrev pub is_closed_in : List Counted → Counted → Bool
is_closed_in list c = list_all (λ other. not (is_proper_superset other.set c.set && other.count == c.count)) list

abbrev pub is_maximal_in : List Counted → Counted → Bool
is_maximal_in list c = list_all (λ other. not (is_proper_superset other.set c.set)) list

-- the closed and the maximal ones of the sets of a list
abbrev pub closed_in : List Counted → List Counted
closed_in list = filter (is_closed_in list) list

abbrev pub maximal_in : List Counted → List Counted
maximal_in list = filter (is_maximal_in list) list

-- the list of the frequent sets decides which of them are closed and which are maximal
abbrev pub ListDecidesClosed : Type 0
ListDecidesClosed = (baskets : List Weighted) (minimum : Minimum) → closed_of baskets minimum ≡ closed_in (frequent_of baskets minimum)

abbrev pub ListDecidesMaximal : Type 0
ListDecidesMaximal = (baskets : List Weighted) (minimum : Minimum) → maximal_of baskets minimum ≡ maximal_in (frequent_of baskets minimum)

-- the sets of one more item of the database
abbrev pub extensions_of : List Weighted → List ℕ → List (List ℕ)
extensions_of baskets set = map (λ item. with_item item set) (filter (λ item. not (has set item)) (items_of baskets))

-- supersets with one item more decide whether a frequent set is closed or maximal
abbrev pub OneItemMoreDecides : Type 0
OneItemMoreDecides = (baskets : List Weighted) (minimum : Minimum) (set : List ℕ) → IsNonemptySet set → IsTrue (is_frequent baskets minimum set)
    → (is_closed baskets set ≡ none_supported_alike baskets set (extensions_of baskets set))
    × (is_maximal baskets minimum set ≡ none_frequent baskets minimum (extensions_of baskets set))

-- what a list of the closed or the maximal sets of a listing is
abbrev pub AreClosed : Listing → List Counted → Type 0
AreClosed listing list = (baskets : List Weighted) (minimum : Minimum) → IsListingOf baskets minimum listing → list ≡ closed_of baskets minimum

abbrev pub AreMaximal : Listing → List Counted → Type 0
AreMaximal listing list = (baskets : List Weighted) (minimum : Minimum) → IsListingOf baskets minimum listing → list ≡ maximal_of baskets minimum
