-- The frequent sets by their greatest rank.
use Rattle.std.specs.Prelude.{◌≡◌, ◌<◌, ℕ, Bool, false, IsTrue, List, [], ◌∷◌, ◌==◌, All, length, filter, map, nat_eq, slice_index_or}
use Rattle.std.specs.Cmp.Lexicographic.{pointwise}
use Rattle.std.specs.List.{Contains, IsDistinct, flat_map}
use Rattle.basket_sets.specs.declared.weighted.Weighted.{Weighted}
use Rattle.basket_sets.specs.declared.counted.Counted.{Counted}
use Rattle.basket_sets.specs.declared.minimum.Minimum.{Minimum}
use Rattle.basket_sets.specs.Frequent.{IsNonemptySet, ListsOnce, counted, frequent_of, is_frequent}
use Rattle.basket_sets.specs.Support.{support_of}

-- whether the last rank of a set, which is its greatest, is this one
abbrev pub ends_in : ℕ → List ℕ → Bool
ends_in rank [] = false
ends_in rank (first ∷ []) = first == rank
ends_in rank (first ∷ second ∷ others) = ends_in rank (second ∷ others)

-- the class of a rank (Zaki 2000): the frequent sets whose greatest rank it is
abbrev pub class_of : List Weighted → Minimum → ℕ → List Counted
class_of baskets minimum rank = filter (λ c. ends_in rank c.set) (frequent_of baskets minimum)

-- the list has each set of a class once, with its support, in any order
pub record ListsClass (baskets : List Weighted) (minimum : Minimum) (rank : ℕ) (list : List Counted) : Type 0 where
  pub distinct : IsDistinct (pointwise nat_eq) (map (λ c. c.set) list)
  pub sound : All (λ c. IsNonemptySet c.set × IsTrue (ends_in rank c.set) × IsTrue (is_frequent baskets minimum c.set) × (c.count ≡ support_of baskets c.set)) list
  pub complete : (set : List ℕ) → IsNonemptySet set → IsTrue (ends_in rank set) → IsTrue (is_frequent baskets minimum set) → Contains list (counted baskets set)

-- the class is such a list
abbrev pub ClassesAreListed : Type 0
ClassesAreListed = (baskets : List Weighted) (minimum : Minimum) (rank : ℕ) → ListsClass baskets minimum rank (class_of baskets minimum rank)

-- a rank that is not frequent has an empty class
abbrev pub RareRanksHaveNoClass : Type 0
RareRanksHaveNoClass = (baskets : List Weighted) (minimum : Minimum) (rank : ℕ) → is_frequent baskets minimum (rank ∷ []) ≡ false → ListsClass baskets minimum rank []

-- a list for each rank, from 0 on, of the sets of its class
abbrev pub ListClasses : List Weighted → Minimum → List (List Counted) → Type 0
ListClasses baskets minimum classes = (rank : ℕ) → rank < length classes → ListsClass baskets minimum rank (slice_index_or classes rank [])

-- each rank of the baskets is below a bound
abbrev pub RanksAreBelow : ℕ → List Weighted → Type 0
RanksAreBelow bound baskets = (rank : ℕ) → Contains (flat_map (λ receipt. receipt.basket) baskets) rank → rank < bound

-- the classes of all ranks together have each frequent set once
abbrev pub ClassesAreAll : Type 0
ClassesAreAll = (baskets : List Weighted) (minimum : Minimum) (classes : List (List Counted)) → RanksAreBelow (length classes) baskets
    → ListClasses baskets minimum classes → ListsOnce baskets minimum (flat_map (λ class. class) classes)
