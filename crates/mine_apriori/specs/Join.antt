-- Candidates as they are made: each set is joined to the later ones that have the same items before their last.
use Rattle.std.specs.Prelude.{◌&&◌, ℕ, zero, suc, Bool, true, IsTrue, List, [], ◌∷◌, ◌++◌, filter, length}
use Rattle.std.specs.Cmp.Lexicographic.{slice_cmp}
use Rattle.std.specs.List.{flat_map}
use Rattle.std.specs.List.Sorted.{IsStrictlySortedBy}
use Rattle.std.specs.Ordering.{nat_cmp}
use Rattle.mine_apriori.specs.Candidates.{is_one_of, has_subsets}
use Rattle.mine_supports.specs.Extensions.{Group, has_items, prefixes_of, sets_of}
use Rattle.mine_supports.specs.Sizes.{AreOfSize}
use Rattle.basket_sets.specs.Itemset.{IsRising, has, without}

-- whether a set with one item more has, in the list, its subsets that lack one of so many first items
abbrev pub has_parts : ℕ → List (List ℕ) → List ℕ → ℕ → Bool
has_parts zero sets set item = true
has_parts (suc index) sets set item = has_parts index sets set item && is_one_of sets (without index set ++ item ∷ [])

-- for each item of a prefix the set with it, and the later items with which that set has all subsets
abbrev pub joined_group : ℕ → List (List ℕ) → List ℕ → List ℕ → List Group
joined_group size sets prefix [] = []
joined_group size sets prefix (item ∷ later) =
    record { prefix = prefix ++ item ∷ []; items = filter (λ other. has_subsets size sets ((prefix ++ item ∷ []) ++ other ∷ [])) later } ∷ joined_group size sets prefix later

-- the same for all groups, without the sets that nothing extends
abbrev pub joined_groups : List (List ℕ) → List Group → List Group
joined_groups sets groups = filter has_items (flat_map (λ group. joined_group (suc (length group.prefix)) sets group.prefix group.items) groups)

-- a prefix and items of a level: all sets of them are in it, and the items rise
pub record AreParts (level : List Group) (prefix items : List ℕ) : Type 0 where
  pub sized : AreOfSize (length prefix) (prefixes_of level)
  pub sorted : IsStrictlySortedBy (slice_cmp nat_cmp) (prefixes_of level)
  pub there : (item : ℕ) → IsTrue (has items item) → IsTrue (is_one_of (sets_of level) (prefix ++ item ∷ []))
  pub rising : (item : ℕ) → IsTrue (has items item) → IsRising (prefix ++ item ∷ [])
  pub items_rise : IsRising items
