use Rattle.std.specs.Prelude.{ℕ, zero, suc, Bool, IsTrue, ◌<◌, List, [], ◌∷◌, ◌++◌, ◌==◌, decimal, map, nat_lt, slice_index_or, if◌then◌else◌}
use Rattle.std.specs.List.{flat_map, list_any, list_all}
use Rattle.std.specs.List.Sorted.{IsStrictlySortedBy}
use Rattle.std.specs.Ordering.{nat_cmp}

-- strictly rising: each item is below every later one
abbrev pub IsRising : List ℕ → Type 0
IsRising items = IsStrictlySortedBy nat_cmp items

-- whether the item is in the list
abbrev pub has : List ℕ → ℕ → Bool
has items item = list_any (λ other. other == item) items

-- whether the basket contains the set: each item of the set is in the basket
abbrev pub contains : List ℕ → List ℕ → Bool
contains basket set = list_all (has basket) set

-- a rising list with the item where it belongs, once
abbrev pub with_item : ℕ → List ℕ → List ℕ
with_item item [] = item ∷ []
with_item item (first ∷ others) = if nat_lt item first then item ∷ first ∷ others else (if item == first then first ∷ others else first ∷ with_item item others)

-- the rising list of the numbers of a list, each once
abbrev pub rising : List ℕ → List ℕ
rising [] = []
rising (number ∷ numbers) = with_item number (rising numbers)

-- the set of the names of items, each of which stands at the index of its item
abbrev pub renamed_set : List ℕ → List ℕ → List ℕ
renamed_set names items = rising (map (λ item. slice_index_or names item 0) items)

-- each item of the list is below the bound
abbrev pub AllBelow : ℕ → List ℕ → Type 0
AllBelow bound items = (item : ℕ) → IsTrue (has items item) → item < bound

-- the items without the one at an index
abbrev pub without : ℕ → List ℕ → List ℕ
without index [] = []
without zero (item ∷ items) = items
without (suc index) (item ∷ items) = item ∷ without index items

-- the items with one space between
abbrev pub spaced : List ℕ → List ℕ
spaced [] = []
spaced (item ∷ others) = decimal item ++ flat_map (λ other. 32 ∷ decimal other) others
