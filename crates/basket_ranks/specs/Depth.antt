-- Frequent sets of many items.
use Rattle.std.specs.Prelude.{◌≡◌, ◌≤◌, ℕ, ◌+◌, ◌^◌, List, [], ◌∷◌, Bool, length, filter, nat_le, nat_lt, if◌then◌else◌}
use Rattle.std.specs.List.{Contains, flat_map}
use Rattle.basket_sets.specs.declared.weighted.Weighted.{Weighted}
use Rattle.basket_sets.specs.declared.counted.Counted.{Counted}
use Rattle.basket_sets.specs.declared.minimum.Minimum.{Minimum}
use Rattle.basket_sets.specs.Database.{weighted}
use Rattle.basket_sets.specs.Frequent.{frequent_of}
use Rattle.basket_sets.specs.Itemset.{has}

-- some set of so many items is in the list
abbrev pub HasSetOfSize : List Counted → ℕ → Type 0
HasSetOfSize list size = (counted : Counted) × Contains list counted × (length counted.set ≡ size)

-- where a set of so many items is frequent, so are all its nonempty subsets
abbrev pub DeepSetsAreMany : Type 0
DeepSetsAreMany = (baskets : List Weighted) (minimum : Minimum) (size : ℕ) → HasSetOfSize (frequent_of baskets minimum) size → 2 ^ size ≤ length (frequent_of baskets minimum) + 1

-- a basket kept to the ranks above a rank
abbrev pub above : ℕ → List ℕ → List ℕ
above rank basket = filter (λ other. nat_lt rank other) basket

-- a basket that has the rank, kept to the ranks above it
abbrev pub narrowed_basket : ℕ → Weighted → List Weighted
narrowed_basket rank receipt = if has receipt.basket rank then weighted (above rank receipt.basket) receipt.weight ∷ [] else []

-- the baskets that have a rank, kept to the ranks above it
abbrev pub narrowed : ℕ → List Weighted → List Weighted
narrowed rank baskets = flat_map (narrowed_basket rank) baskets

-- whether a basket has at least so many ranks
abbrev pub is_long : ℕ → Weighted → Bool
is_long least receipt = nat_le least (length receipt.basket)
