use Rattle.std.specs.Prelude.{◌≡◌, ◌<◌, ℕ, All, Bool, false, IsTrue, List, [], filter, length, map, slice_index, slice_index_or}
use Rattle.basket_sets.specs.Itemset.{has}

-- each item of the sets is one of the items
abbrev pub AreUsed : List (List ℕ) → List ℕ → Type 0
AreUsed sets items = (k item : ℕ) → k < length sets → IsTrue (has (slice_index_or sets k []) item) → IsTrue (has items item)

-- the numbers of those of some items that are used, in their order
pub record AreNumbers (used items numbers : List ℕ) : Type 0 where
  pub below : All (λ number. number < length used) numbers
  pub named : map (slice_index used) numbers ≡ filter (has used) items

-- each item with a mark is one of the items
abbrev pub AreMarked : List Bool → List ℕ → Type 0
AreMarked marks items = (item : ℕ) → IsTrue (slice_index_or marks item false) → IsTrue (has items item)
