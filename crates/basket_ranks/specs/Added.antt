-- Counts of items, added.
use Rattle.std.specs.Prelude.{◌≡◌, ℕ, ◌+◌, ◌==◌, List, ◌++◌, map, if◌then◌else◌}
use Rattle.std.specs.List.{sum_by}
use Rattle.basket_sets.specs.declared.weighted.Weighted.{Weighted}
use Rattle.basket_sets.specs.Counts.{item_supports}
use Rattle.basket_sets.specs.Itemset.{rising}

-- the items of a list of counts
abbrev pub items_of_counts : List (ℕ × ℕ) → List ℕ
items_of_counts counts = map (λ entry. entry.0) counts

-- the number of an item in a list of counts, and 0 where it isn't there
abbrev pub number_of : List (ℕ × ℕ) → ℕ → ℕ
number_of counts item = sum_by (λ entry. if entry.0 == item then entry.1 else 0) counts

-- the rising list of the items of either, each with its two numbers added
abbrev pub added_counts : List (ℕ × ℕ) → List (ℕ × ℕ) → List (ℕ × ℕ)
added_counts a b = map (λ item. (item, number_of a item + number_of b item)) (rising (items_of_counts a ++ items_of_counts b))

-- the supports of the items over two lists of baskets add up to their supports over both
abbrev pub ItemSupportsAddUp : Type 0
ItemSupportsAddUp = (a b : List Weighted) → added_counts (item_supports a) (item_supports b) ≡ item_supports (a ++ b)
