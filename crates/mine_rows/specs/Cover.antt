-- Covers: tids, rising, and what they weigh.
use Rattle.std.specs.Prelude.{ℕ, not, List, filter, length, slice_index}
use Rattle.std.specs.List.{range_with_len, sum_by}
use Rattle.basket_sets.specs.Itemset.{AllBelow, IsRising, has}

-- all tids that have a weight
abbrev pub all_tids : List ℕ → List ℕ
all_tids weights = range_with_len 0 (length weights)

-- what the tids of a cover weigh together
abbrev pub cover_weight : List ℕ → List ℕ → ℕ
cover_weight weights cover = sum_by (λ tid. slice_index weights tid) cover

-- a cover: tids that rise, each of which has a weight
pub record IsCover (weights cover : List ℕ) : Type 0 where
  pub rises : IsRising cover
  pub below : AllBelow (length weights) cover

-- the tids that stand in both covers
abbrev pub common : List ℕ → List ℕ → List ℕ
common first second = filter (has second) first

-- the tids of the first cover that the second lacks
abbrev pub lacking : List ℕ → List ℕ → List ℕ
lacking first second = filter (λ tid. not (has second tid)) first
