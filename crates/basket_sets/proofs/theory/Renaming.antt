-- Baskets whose items have other names.
use Rattle.std.proofs.Common.{◌≡◌, ◌+◌, ℕ, List, [], map}
use Rattle.std.proofs.lemmas.List.Folds.{fold-map}
use Rattle.basket_sets.specs.declared.weighted.Weighted.{Weighted}
use Rattle.basket_sets.specs.Database.{renamed_basket}
use Rattle.basket_sets.specs.Support.{weight_at, total_of}

-- renaming keeps the total weight
pub renamed_total : (names : List ℕ) (baskets : List Weighted) → total_of (map (renamed_basket names) baskets) ≡ total_of baskets
renamed_total names baskets = fold-map (λ n receipt. n + weight_at [] receipt) (renamed_basket names) 0 baskets
