-- The work of Eclat: how many joins there are.
use Rattle.std.specs.Prelude.{◌≡◌, ℕ, Bool, false, ◌&&◌, List, [], ◌∷◌, All, filter, length, nat_eq, true}
use Rattle.std.specs.Cmp.Lexicographic.{pointwise}
use Rattle.std.specs.List.{Contains, IsDistinct, range_with_len, sum_by}
use Rattle.basket_ranks.specs.Codes.{Coding}
use Rattle.basket_sets.specs.declared.weighted.Weighted.{Weighted}
use Rattle.basket_sets.specs.declared.minimum.Minimum.{Minimum}
use Rattle.basket_sets.specs.Frequent.{IsNonemptySet, is_frequent}
use Rattle.basket_sets.specs.Itemset.{AllBelow}
use Rattle.mine_search.specs.Walk.{sets_below}

-- whether a set is that of a join: it has two or more ranks, and both without its least rank and without its second least one it is frequent
abbrev pub is_join : List Weighted → Minimum → List ℕ → Bool
is_join baskets minimum [] = false
is_join baskets minimum (rank ∷ []) = false
is_join baskets minimum (first ∷ second ∷ others) = is_frequent baskets minimum (second ∷ others) && is_frequent baskets minimum (first ∷ others)

-- the sets of ranks below a number, and the sets whose greatest rank is a rank, except the rank alone
abbrev pub sets_of_ranks : ℕ → List (List ℕ)
sets_of_ranks count = sets_below (λ set. true) count []

abbrev pub sets_to : ℕ → List (List ℕ)
sets_to rank = sets_below (λ set. true) rank (rank ∷ [])

-- how many joins the sets of a class are made by
abbrev pub class_joins : Coding → ℕ → ℕ
class_joins coding rank = length (filter (is_join coding.baskets coding.minimum) (sets_to rank))

-- how many joins there are
abbrev pub joins_of : Coding → ℕ
joins_of coding = length (filter (is_join coding.baskets coding.minimum) (sets_of_ranks (length coding.items)))

-- the joins of all classes add up
abbrev pub ClassJoinsAddUp : Type 0
ClassJoinsAddUp = (coding : Coding) → sum_by (class_joins coding) (range_with_len 0 (length coding.items)) ≡ joins_of coding

-- the sets of ranks below a number are the nonempty ones, each once
pub record ListsSets (count : ℕ) (sets : List (List ℕ)) : Type 0 where
  pub distinct : IsDistinct (pointwise nat_eq) sets
  pub sound : All (λ set. IsNonemptySet set × AllBelow count set) sets
  pub complete : (set : List ℕ) → IsNonemptySet set → AllBelow count set → Contains sets set

abbrev pub SetsOfRanksAreAll : Type 0
SetsOfRanksAreAll = (count : ℕ) → ListsSets count (sets_of_ranks count)
