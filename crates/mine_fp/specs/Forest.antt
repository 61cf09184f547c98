-- Coded baskets in order, for FP-growth.
use Rattle.std.specs.Prelude.{◌≡◌, ℕ, List, [], ◌∷◌, length, map}
use Rattle.std.specs.List.{range_with_len}
use Rattle.basket_ranks.specs.Codes.{IsCoding}
use Rattle.basket_sets.specs.Minimum.{IsLeastSupport}
use Rattle.basket_sets.specs.Support.{support_of, total_of}
use Rattle.mine_baskets.specs.ListBaskets.{AreRankBaskets}
use Rattle.mine_fp.specs.declared.pattern_base.PatternBase.{PatternBase}

-- the pattern base of the empty set: baskets with the supports of a coding, whose ranks are their own numbers
pub record IsForest (all : PatternBase) : Type 0 where
  pub coding : IsCoding all.coded.now
  pub least : IsLeastSupport all.coded.now.minimum (total_of all.coded.now.baskets) all.least
  pub count : all.paths.ranks ≡ length all.coded.now.items
  pub ranked : AreRankBaskets all.paths
  pub supports : (set : List ℕ) → support_of all.paths.baskets set ≡ support_of all.coded.now.baskets set
  pub ranks : all.ranks.items ≡ map (λ rank. (rank, support_of all.paths.baskets (rank ∷ []))) (range_with_len 0 all.paths.ranks)
