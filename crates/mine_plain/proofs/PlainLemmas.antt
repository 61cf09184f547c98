-- The items of a database, as they are counted.
use Rattle.std.proofs.Common.{◌≡◌, ℕ, List, [], ◌∷◌, map, refl, ap}
use Rattle.basket_sets.specs.declared.weighted.Weighted.{Weighted}
use Rattle.basket_sets.specs.Counts.{item_supports}
use Rattle.basket_sets.specs.Support.{items_of, support_of}

map-pairs : (f : ℕ → ℕ) (items : List ℕ) → map (λ (entry : ℕ × ℕ). entry.0) (map (λ item. (item, f item)) items) ≡ items
map-pairs f [] = refl
map-pairs f (item ∷ items) = ap (λ rest. item ∷ rest) (map-pairs f items)

pub items_counted : (baskets : List Weighted) → map (λ (entry : ℕ × ℕ). entry.0) (item_supports baskets) ≡ items_of baskets
items_counted baskets = map-pairs (λ item. support_of baskets (item ∷ [])) (items_of baskets)
