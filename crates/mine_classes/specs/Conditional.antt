-- The baskets that have a rank, kept to what a set with that rank can have.
use Rattle.std.specs.Prelude.{◌≡◌, ◌++◌, ℕ, Bool, ◌&&◌, List, [], ◌∷◌, filter, nat_lt, if◌then◌else◌}
use Rattle.std.specs.List.{flat_map, list_all}
use Rattle.basket_sets.specs.declared.weighted.Weighted.{Weighted}
use Rattle.basket_sets.specs.declared.minimum.Minimum.TheVariants.{Count}
use Rattle.basket_sets.specs.Database.{weighted}
use Rattle.basket_sets.specs.Frequent.{is_frequent}
use Rattle.basket_sets.specs.Itemset.{has}
use Rattle.basket_sets.specs.Support.{support_of}

-- whether a rank is below another one and frequent together with it, by a least support
abbrev pub is_kept : List Weighted → ℕ → ℕ → ℕ → Bool
is_kept baskets least rank other = nat_lt other rank && is_frequent baskets (Count least) (other ∷ rank ∷ [])

-- a basket that has the rank, kept to the ranks that a test keeps
abbrev pub kept_basket : (ℕ → Bool) → ℕ → Weighted → List Weighted
kept_basket keeps rank receipt = if has receipt.basket rank then weighted (filter keeps receipt.basket) receipt.weight ∷ [] else []

-- the conditional database of a rank (Han, Pei and Yin 2000): the baskets that have it, kept to the ranks below it that are frequent together with it
abbrev pub conditional : ℕ → List Weighted → ℕ → List Weighted
conditional least baskets rank = flat_map (kept_basket (is_kept baskets least rank) rank) baskets

-- each set of kept ranks has in the conditional database the support that it has, with the rank added, in the baskets; each other set has none
abbrev pub ConditionalSupports : Type 0
ConditionalSupports = (baskets : List Weighted) (least rank : ℕ) (set : List ℕ)
    → support_of (conditional least baskets rank) set ≡ (if list_all (is_kept baskets least rank) set then support_of baskets (set ++ rank ∷ []) else 0)
