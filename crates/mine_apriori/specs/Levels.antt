-- The frequent sets by levels: those of one item, those of two, and so on.
use Rattle.std.specs.Prelude.{◌≡◌, ◌<◌, ◌≤◌, ◌+◌, ℕ, List, length, filter, map}
use Rattle.basket_ranks.specs.Codes.{Coding, decoded_set, frequent_of_coding}
use Rattle.basket_sets.specs.declared.counted.Counted.{Counted}
use Rattle.basket_sets.specs.Frequent.{counted, is_frequent}
use Rattle.basket_sets.specs.Subsets.{subsets_of_size, subsets_up_to}
use Rattle.basket_sets.specs.Support.{support_of, items_of}
use Rattle.mine_supports.specs.Extensions.{AreGrouped, Group, sets_of}
use Rattle.mine_apriori.specs.Candidates.{candidates_of}
use Rattle.mine_apriori.specs.Work.{candidates_up_to}

-- the frequent sets of so many ranks
abbrev pub level_of : Coding → ℕ → List (List ℕ)
level_of coding size = filter (is_frequent coding.baskets coding.minimum) (subsets_of_size size (items_of coding.baskets))

-- the frequent sets of at most so many ranks
abbrev pub levels_up_to : Coding → ℕ → List (List ℕ)
levels_up_to coding size = filter (is_frequent coding.baskets coding.minimum) (subsets_up_to size (items_of coding.baskets))

-- the sets of one more rank whose supports are asked: those all of whose subsets of the size are frequent
abbrev pub asked_of : Coding → ℕ → List (List ℕ)
asked_of coding size = candidates_of (level_of coding size)

-- what a search is: of the baskets of a coding the frequent sets of at most so many ranks are found, and there may be as many frequent sets as the limit
pub record Search : Type 0 where
  pub coding : Coding
  pub limit : ℕ
  pub size : ℕ

-- the supports of the sets that are asked
abbrev pub wanted : Search → List ℕ
wanted search = map (support_of search.coding.baskets) (asked_of search.coding search.size)

-- there are more frequent sets than the limit
abbrev pub AreTooMany : Coding → ℕ → Type 0
AreTooMany coding limit = limit < length (frequent_of_coding coding)

-- sets of ranks as items, with their supports
abbrev pub decoded_sets : Coding → List (List ℕ) → List Counted
decoded_sets coding sets = map (λ set. decoded_set coding.items (counted coding.baskets set)) sets

-- the frequent sets of at most so many ranks as items, smaller sets first
abbrev pub AreFound : Coding → ℕ → List Counted → Type 0
AreFound coding size found = found ≡ decoded_sets coding (levels_up_to coding size)

-- what a search has found, what it asks, and how many sets it has asked
pub record Knows (search : Search) (found : List Counted) (candidates : List Group) (counted : ℕ) : Type 0 where
  pub some : 1 ≤ search.size
  pub found_all : AreFound search.coding search.size found
  pub few : length found ≤ search.limit
  pub asked : sets_of candidates ≡ asked_of search.coding search.size
  pub grouped : AreGrouped candidates
  pub number : counted ≡ length (candidates_up_to search.coding.baskets search.coding.minimum (search.size + 1))
