-- Lists of counted sets that are as those of frequent sets are.
use Rattle.std.specs.Prelude.{◌≤◌, ◌<◌, ℕ, List, [], ◌∷◌, All, length, nat_eq, if◌then◌else◌}
use Rattle.std.specs.Cmp.Lexicographic.{pointwise}
use Rattle.basket_sets.specs.declared.weighted.Weighted.{Weighted}
use Rattle.basket_sets.specs.declared.counted.Counted.{Counted}
use Rattle.basket_sets.specs.declared.minimum.Minimum.{Minimum}
use Rattle.basket_sets.specs.Frequent.{frequent_of, IsNonemptySet}
use Rattle.basket_rules.specs.Listed.{IsSorted}
use Rattle.basket_sets.specs.Itemset.{without}

-- the count of a set in a list, and 0 where the list doesn't have the set
abbrev pub count_in : List Counted → List ℕ → ℕ
count_in [] set = 0
count_in (c ∷ list) set = if pointwise nat_eq c.set set then c.count else count_in list set

-- each nonempty subset with one item less has a count in the list that is no lower
abbrev pub HasSubsets : List Counted → Counted → Type 0
HasSubsets list c = (index : ℕ) → index < length c.set → 2 ≤ length c.set → c.count ≤ count_in list (without index c.set)

-- the sets of a list are nonempty and in report order, have counts of at least 1, and their nonempty subsets are there too, with counts that are no lower
pub record IsConsistent (list : List Counted) : Type 0 where
  pub in_order : IsSorted list
  pub nonempty : All (λ c. IsNonemptySet c.set) list
  pub counted : All (λ c. 1 ≤ c.count) list
  pub subsets : All (HasSubsets list) list

-- the list of the frequent sets is consistent
abbrev pub FrequentIsConsistent : Type 0
FrequentIsConsistent = (baskets : List Weighted) (minimum : Minimum) → IsConsistent (frequent_of baskets minimum)
