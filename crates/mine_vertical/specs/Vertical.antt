-- Coded baskets in order.
use Rattle.std.specs.Prelude.{◌≡◌, ℕ, length}
use Rattle.basket_ranks.specs.Codes.{Coding, IsCoding}
use Rattle.basket_sets.specs.Minimum.{IsLeastSupport}
use Rattle.basket_sets.specs.Support.{total_of}
use Rattle.mine_baskets.specs.ListBaskets.{HaveSameWeights, RankBaskets}

-- what is kept beside coded baskets: the least support that meets their minimum, and baskets of their ranks with the same weights
pub record IsVertical (coding : Coding) (least : ℕ) (runs : RankBaskets) : Type 0 where
  pub coding_is : IsCoding coding
  pub least_is : IsLeastSupport coding.minimum (total_of coding.baskets) least
  pub ranks_are : runs.ranks ≡ length coding.items
  pub weights : HaveSameWeights coding.baskets runs.baskets
