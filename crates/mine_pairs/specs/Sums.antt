-- A sum for each rank.
use Rattle.std.specs.Prelude.{◌≡◌, ◌<◌, ◌+◌, ℕ, Bool, ◌&&◌, IsTrue, List, filter, length, map, nat_le, slice_index, if◌then◌else◌}
use Rattle.std.specs.List.{range_with_len}
use Rattle.basket_sets.specs.declared.weighted.Weighted.{Weighted}
use Rattle.basket_sets.specs.Counts.{AllBelow}
use Rattle.basket_sets.specs.Itemset.{has}
use Rattle.mine_baskets.specs.ListBaskets.{weight_where}

-- sums of some ranks: each that is not 0 is of a rank that is listed
pub record AreSums (count : ℕ) (sums found : List ℕ) : Type 0 where
  pub long : length sums ≡ count
  pub below : AllBelow count found
  pub listed : (rank : ℕ) → 0 < slice_index sums rank → IsTrue (has found rank)

-- the sums with a weight added at each rank of a basket
abbrev pub WithBasket : List ℕ → ℕ → List ℕ → List ℕ → Type 0
WithBasket basket weight old new = (rank : ℕ) → rank < length old → slice_index new rank ≡ slice_index old rank + (if has basket rank then weight else 0)

-- whether a sum is a support that is asked for
abbrev pub is_met : ℕ → ℕ → Bool
is_met least sum = nat_le 1 sum && nat_le least sum

-- the weight of the baskets that have a rank
abbrev pub weight_with : ℕ → List Weighted → ℕ
weight_with rank baskets = weight_where (λ basket. has basket rank) baskets

-- the ranks below a number that stand in baskets of at least so much weight, each with that weight
abbrev pub ranks_met : ℕ → ℕ → List Weighted → List (ℕ × ℕ)
ranks_met count least baskets = map (λ rank. (rank, weight_with rank baskets)) (filter (λ rank. is_met least (weight_with rank baskets)) (range_with_len 0 count))
