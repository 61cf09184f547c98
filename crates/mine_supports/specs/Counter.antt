use Rattle.std.specs.Prelude.{◌≡◌, ◌<◌, ◌≤◌, ◌+◌, ℕ, List, [], length, slice_index, slice_index_or, take}
use Rattle.basket_sets.specs.declared.weighted.Weighted.{Weighted}
use Rattle.basket_sets.specs.Support.{support_of}

-- a set shares so many first items with another
pub record IsShared (before items : List ℕ) (count : ℕ) : Type 0 where
  pub short : count ≤ length items
  pub same : take count before ≡ take count items

-- the supports of some sets in some baskets are added to the counts from an index on, and the other counts stay
pub record AreAdded (sets : List (List ℕ)) (baskets : List Weighted) (start : ℕ) (old new : List ℕ) : Type 0 where
  pub added : (k : ℕ) → k < length sets → slice_index new (start + k) ≡ slice_index old (start + k) + support_of baskets (slice_index_or sets k [])
  pub before : (k : ℕ) → k < start → slice_index new k ≡ slice_index old k
  pub after : (k : ℕ) → start + length sets ≤ k → slice_index new k ≡ slice_index old k

-- the counts of some sets with their supports in some baskets added
abbrev pub WithSupports : List (List ℕ) → List Weighted → List ℕ → List ℕ → Type 0
WithSupports sets baskets old new =
    (k : ℕ) → k < length sets → k < length old → slice_index new k ≡ slice_index old k + support_of baskets (slice_index_or sets k [])
