-- The work of Apriori: how many candidates there are.
use Rattle.std.specs.Prelude.{◌≡◌, ◌-◌, ℕ, Bool, ◌&&◌, nat_le, List, filter, length}
use Rattle.std.specs.List.{list_all}
use Rattle.basket_sets.specs.declared.weighted.Weighted.{Weighted}
use Rattle.basket_sets.specs.declared.minimum.Minimum.{Minimum}
use Rattle.basket_sets.specs.Frequent.{frequent_of, is_frequent}
use Rattle.basket_sets.specs.Subsets.{subsets_of, subsets_of_size, subsets_up_to}
use Rattle.basket_sets.specs.Support.{items_of}

-- whether a set is a candidate of some baskets and a minimum: it has two or more items, and each of its subsets of one less is frequent
abbrev pub is_candidate : List Weighted → Minimum → List ℕ → Bool
is_candidate baskets minimum set = nat_le 2 (length set) && list_all (is_frequent baskets minimum) (subsets_of_size (length set - 1) set)

-- the candidates of so many items
abbrev pub candidates_of_size : List Weighted → Minimum → ℕ → List (List ℕ)
candidates_of_size baskets minimum size = filter (is_candidate baskets minimum) (subsets_of_size size (items_of baskets))

-- the candidates of at most so many items
abbrev pub candidates_up_to : List Weighted → Minimum → ℕ → List (List ℕ)
candidates_up_to baskets minimum size = filter (is_candidate baskets minimum) (subsets_up_to size (items_of baskets))

-- all candidates, in report order
abbrev pub all_candidates : List Weighted → Minimum → List (List ℕ)
all_candidates baskets minimum = filter (is_candidate baskets minimum) (subsets_of (items_of baskets))

-- how many candidates there are
abbrev pub candidate_count : List Weighted → Minimum → ℕ
candidate_count baskets minimum = length (all_candidates baskets minimum)

-- baskets with the same frequent sets have the same candidates
abbrev pub CandidatesBySets : Type 0
CandidatesBySets = (one other : List Weighted) (minimum : Minimum) → frequent_of one minimum ≡ frequent_of other minimum → all_candidates one minimum ≡ all_candidates other minimum
