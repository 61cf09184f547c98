-- Lists of sets with their counts.
use Rattle.std.specs.Prelude.{◌≡◌, ◌<◌, ℕ, Bool, false, not, List, [], length, filter, slice_index_or}
use Rattle.basket_sets.specs.declared.counted.Counted.{Counted}

-- the set at an index of a list
abbrev pub set_at : List Counted → ℕ → List ℕ
set_at sets index = (slice_index_or sets index (record { set = []; count = 0 })).set

-- the count at an index of a list
abbrev pub count_at : List Counted → ℕ → ℕ
count_at sets index = (slice_index_or sets index (record { set = []; count = 0 })).count

-- a test passes those sets of a list that aren't marked
abbrev pub PassesUnmarked : List Counted → List Bool → (Counted → Bool) → Type 0
PassesUnmarked list marks test = (k : ℕ) (none : Counted) → k < length list → test (slice_index_or list k none) ≡ not (slice_index_or marks k false)

-- some sets are those of the list that aren't marked
abbrev pub AreUnmarked : List Counted → List Bool → List Counted → Type 0
AreUnmarked list marks kept = (test : Counted → Bool) → PassesUnmarked list marks test → kept ≡ filter test list
