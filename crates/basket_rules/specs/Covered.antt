-- Which sets of a list have a superset there with one item more.
use Rattle.std.specs.Prelude.{◌≡◌, ◌<◌, ◌≤◌, ◌⊎◌, ℕ, Bool, IsTrue, false, List, length, slice_index_or}
use Rattle.basket_sets.specs.declared.counted.Counted.{Counted}
use Rattle.basket_rules.specs.declared.covered.Supersets.{Supersets}
use Rattle.basket_rules.specs.declared.covered.Supersets.TheVariants.{All, SameCount}
use Rattle.basket_rules.specs.Listed.{IsSorted, count_at}
use Rattle.basket_rules.specs.Subset.{IsWithout}

-- whether a superset matters, by the count of the set and that of the superset
abbrev pub Matters : Supersets → ℕ → ℕ → Type 0
Matters All count above = Unit {0}
Matters SameCount count above = above ≡ count

-- some set of the list has one item more, and matters
pub record HasSuperset (list : List Counted) (supersets : Supersets) (number : ℕ) : Type 0 where
  pub above : ℕ
  pub index : ℕ
  pub without : IsWithout list above index number
  pub matters : Matters supersets (count_at list number) (count_at list above)

-- the sets from an index up to another were gone over, with all their items
abbrev pub IsBetween : ℕ → ℕ → ℕ → ℕ → Type 0
IsBetween from end above index = (from ≤ above) × (above < end)

-- so were, of the set at an index, the items before another index
abbrev pub WasSeen : ℕ → ℕ → ℕ → ℕ → ℕ → Type 0
WasSeen from number items above index = (from ≤ above) × ((above < number) ⊎ ((above ≡ number) × (index < items)))

-- a set is marked only if such a superset is there, and if one was gone over
pub record IsMark (list : List Counted) (supersets : Supersets) (seen : ℕ → ℕ → Type 0) (number : ℕ) (mark : Bool) : Type 0 where
  pub some : IsTrue mark → HasSuperset list supersets number
  pub each : IsSorted list → (above index : ℕ) → seen above index → IsWithout list above index number → Matters supersets (count_at list number) (count_at list above) → IsTrue mark

-- beside each set of the list stands its mark
pub record AreMarks (list : List Counted) (supersets : Supersets) (seen : ℕ → ℕ → Type 0) (marks : List Bool) : Type 0 where
  pub long : length marks ≡ length list
  pub each : (number : ℕ) → number < length list → IsMark list supersets seen number (slice_index_or marks number false)
