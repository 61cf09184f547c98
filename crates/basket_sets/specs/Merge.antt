-- The entries of a map from baskets to weights, as a list of baskets.
use Rattle.std.specs.Prelude.{List, ℕ}
use Rattle.basket_sets.specs.declared.weighted.Weighted.{Weighted}
use Rattle.basket_sets.specs.Database.{weighted}

abbrev pub as_weighted : List ℕ × ℕ → Weighted
as_weighted entry = weighted entry.0 entry.1
