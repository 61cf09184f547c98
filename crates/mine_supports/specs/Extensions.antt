-- Sets as prefixes and the items that extend them.
use Rattle.std.specs.Prelude.{◌++◌, ◌∷◌, ℕ, Bool, true, false, List, [], filter, map}
use Rattle.std.specs.Cmp.Lexicographic.{slice_cmp}
use Rattle.std.specs.List.{flat_map}
use Rattle.std.specs.List.Sorted.{IsStrictlySortedBy}
use Rattle.std.specs.Ordering.{nat_cmp}
use Rattle.mine_supports.specs.Sizes.{AreOfSize}

-- a prefix, and the items that extend it
pub record Group : Type 0 where
  pub prefix : List ℕ
  pub items : List ℕ

-- each prefix with its items
abbrev pub groups_of : List (List ℕ) → List (List ℕ) → List Group
groups_of [] lists = []
groups_of (prefix ∷ prefixes) [] = []
groups_of (prefix ∷ prefixes) (items ∷ lists) = record { prefix = prefix; items = items } ∷ groups_of prefixes lists

abbrev pub prefixes_of : List Group → List (List ℕ)
prefixes_of groups = map (λ group. group.prefix) groups

abbrev pub lists_of : List Group → List (List ℕ)
lists_of groups = map (λ group. group.items) groups

-- a prefix with each of the items
abbrev pub extend : List ℕ → List ℕ → List (List ℕ)
extend prefix items = map (λ item. prefix ++ item ∷ []) items

-- the sets of all groups
abbrev pub sets_of : List Group → List (List ℕ)
sets_of groups = flat_map (λ group. extend group.prefix group.items) groups

abbrev pub is_some : List ℕ → Bool
is_some [] = false
is_some (item ∷ items) = true

abbrev pub has_items : Group → Bool
has_items group = is_some group.items

-- the sets that pass, without the prefixes that have none
abbrev pub kept : (List ℕ → Bool) → List Group → List Group
kept passes groups = filter has_items (map (λ group. record { prefix = group.prefix; items = filter (λ item. passes (group.prefix ++ item ∷ [])) group.items }) groups)

-- the prefixes have one size and are in lexicographic order
pub record AreGrouped (groups : List Group) : Type 0 where
  pub size : ℕ
  pub sized : AreOfSize size (prefixes_of groups)
  pub sorted : IsStrictlySortedBy (slice_cmp nat_cmp) (prefixes_of groups)
