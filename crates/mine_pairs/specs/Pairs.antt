-- The frequent pairs of ranks, by their greater ranks, and their supports.
use Rattle.std.specs.Prelude.{◌≡◌, ℕ, List, [], ◌∷◌, filter, length, map, slice_index}
use Rattle.std.specs.List.{range_with_len}
use Rattle.std.specs.declared.vec.Vec.{Vec}
use Rattle.std.specs.declared.alloc.Global.{Global}
use Rattle.basket_ranks.specs.Codes.{Coding}
use Rattle.basket_sets.specs.declared.weighted.Weighted.{Weighted}
use Rattle.basket_sets.specs.Minimum.{IsLeastSupport}
use Rattle.basket_sets.specs.Support.{support_of, total_of}
use Rattle.mine_classes.specs.Conditional.{is_kept}

-- the ranks below a rank that are frequent together with it, by a least support
abbrev pub kept_ranks : List Weighted → ℕ → ℕ → List ℕ
kept_ranks baskets least rank = filter (is_kept baskets least rank) (range_with_len 0 rank)

-- each of them with the support of the pair
abbrev pub pairs_of : List Weighted → ℕ → ℕ → List (ℕ × ℕ)
pairs_of baskets least rank = map (λ other. (other, support_of baskets (other ∷ rank ∷ []))) (kept_ranks baskets least rank)

-- the lists in a list
abbrev pub lists_of : {X : Type 0} → List (Vec X Global) → List (List X)
lists_of lists = map (λ list. list.items) lists

-- for each rank below a number the ranks below it that are frequent together with it, by a least support, each with the support of the pair
abbrev pub pairs_by_greater : List Weighted → ℕ → ℕ → List (List (ℕ × ℕ))
pairs_by_greater baskets least count = map (pairs_of baskets least) (range_with_len 0 count)

-- the pairs of each rank of a coding, by the least support that meets its minimum
pub record ArePairs (coding : Coding) (lists : List (List (ℕ × ℕ))) : Type 0 where
  pub least : ℕ
  pub settles : IsLeastSupport coding.minimum (total_of coding.baskets) least
  pub pairs : lists ≡ pairs_by_greater coding.baskets least (length coding.items)

-- a pair with the rank that stands at its index in a list
abbrev pub named_pair : List ℕ → ℕ × ℕ → ℕ × ℕ
named_pair list pair = (slice_index list pair.0, pair.1)
