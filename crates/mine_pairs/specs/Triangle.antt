-- A count for each pair of ranks: a row for each greater rank, with a count for each lesser one.
use Rattle.std.specs.Prelude.{◌≡◌, ◌<◌, ◌+◌, ℕ, List, [], ◌∷◌, length, map, replicate, slice_index, slice_index_or, if◌then◌else◌}
use Rattle.std.specs.List.{range_with_len}
use Rattle.basket_sets.specs.declared.weighted.Weighted.{Weighted}
use Rattle.basket_sets.specs.Itemset.{has}
use Rattle.basket_sets.specs.Support.{support_of}
use Rattle.mine_pairs.specs.declared.rank_range.RankRange.{RankRange}
use Rattle.mine_pairs.specs.Pairs.{pairs_of}
use Rattle.mine_pairs.specs.Sums.{WithBasket}

-- the ranks of a range
abbrev pub ranks_in : RankRange → List ℕ
ranks_in range = range_with_len range.first range.count

-- for each of them the ranks below it that are frequent together with it, by a least support, each with the support of the pair
abbrev pub pairs_in_range : List Weighted → ℕ → RankRange → List (List (ℕ × ℕ))
pairs_in_range baskets least range = map (pairs_of baskets least) (ranks_in range)

-- a count of 0 for each rank below one
abbrev pub zeros : ℕ → List ℕ
zeros greater = replicate greater 0

abbrev pub row_at : List (List ℕ) → ℕ → List ℕ
row_at rows k = slice_index_or rows k []

-- the rows are those of the ranks from a first one on
abbrev pub HaveRows : ℕ → List (List ℕ) → Type 0
HaveRows first rows = (k : ℕ) → k < length rows → length (row_at rows k) ≡ first + k

-- they have the supports of the pairs in some baskets
pub record HaveCounts (baskets : List Weighted) (first : ℕ) (rows : List (List ℕ)) : Type 0 where
  pub long : HaveRows first rows
  pub counts : (k lesser : ℕ) → k < length rows → lesser < first + k → slice_index (row_at rows k) lesser ≡ support_of baskets (lesser ∷ (first + k) ∷ [])

-- the rows with a weight added for the pairs of some greater ranks with each of some lesser ones
pub record WithPairs (first : ℕ) (greater lesser : List ℕ) (weight : ℕ) (old new : List (List ℕ)) : Type 0 where
  pub long : (k : ℕ) → k < length old → length (row_at new k) ≡ length (row_at old k)
  pub added : (k : ℕ) → k < length old → WithBasket (if has greater (first + k) then lesser else []) weight (row_at old k) (row_at new k)
