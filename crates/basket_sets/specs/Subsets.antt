use Rattle.std.specs.Prelude.{◌≢◌, ◌↔◌, ℕ, zero, suc, IsTrue, List, [], ◌∷◌, ◌++◌, map, length}
use Rattle.std.specs.List.{Contains}
use Rattle.basket_sets.specs.Itemset.{IsRising, contains}
use Rattle.basket_sets.specs.Order.{IsInReportOrder}

-- the subsets of a rising list that have so many items: first those with the list's first item, then those without
abbrev pub subsets_of_size : ℕ → List ℕ → List (List ℕ)
subsets_of_size zero items = [] ∷ []
subsets_of_size (suc size) [] = []
subsets_of_size (suc size) (item ∷ items) = map (λ set. item ∷ set) (subsets_of_size size items) ++ subsets_of_size (suc size) items

-- the subsets that have one item, then those that have two, up to a size
abbrev pub subsets_up_to : ℕ → List ℕ → List (List ℕ)
subsets_up_to zero items = []
subsets_up_to (suc size) items = subsets_up_to size items ++ subsets_of_size (suc size) items

-- the nonempty subsets of a rising list, in report order
abbrev pub subsets_of : List ℕ → List (List ℕ)
subsets_of items = subsets_up_to (length items) items

-- the subsets of a rising list are in report order
abbrev pub SubsetsAreInReportOrder : Type 0
SubsetsAreInReportOrder = (items : List ℕ) → IsRising items → IsInReportOrder (subsets_of items)

-- a set is a nonempty rising sublist: it has an item, it rises, and the list contains it
abbrev pub IsSublist : List ℕ → List ℕ → Type 0
IsSublist items set = IsRising set × (set ≢ []) × IsTrue (contains items set)

-- the subsets of a rising list are exactly its nonempty rising sublists
abbrev pub SubsetsAreExact : Type 0
SubsetsAreExact = (items set : List ℕ) → IsRising items → Contains (subsets_of items) set ↔ IsSublist items set
