-- The counts of items over the parts of a list of baskets.
use Rattle.std.specs.Prelude.{◌≡◌, ℕ, List, map}
use Rattle.std.specs.List.{flat_map}
use Rattle.basket_sets.specs.declared.weighted.Weighted.{Weighted}
use Rattle.basket_sets.specs.Counts.{item_supports}

-- the lists are the counts of parts that are together the baskets
pub record CountParts (baskets : List Weighted) (lists : List (List (ℕ × ℕ))) : Type 0 where
  pub parts : List (List Weighted)
  pub counts : lists ≡ map item_supports parts
  pub whole : flat_map (λ part. part) parts ≡ baskets
