use Rattle.std.specs.Prelude.{◌≡◌, ◌≤◌, ◌+◌, ◌↔◌, ℕ, suc, Bool, IsTrue, List, [], ◌∷◌, length, filter, nat_eq}
use Rattle.std.specs.Cmp.Lexicographic.{pointwise}
use Rattle.std.specs.List.{Contains, list_any, list_all, flat_map}
use Rattle.basket_sets.specs.Itemset.{IsRising, contains, rising}
use Rattle.basket_sets.specs.Order.{IsInReportOrder}
use Rattle.basket_sets.specs.Subsets.{subsets_of_size}
use Rattle.mine_supports.specs.Sizes.{AreOfSize}

-- the items of the sets
abbrev pub items_in : List (List ℕ) → List ℕ
items_in sets = rising (flat_map (λ set. set) sets)

-- whether the set is one of the list
abbrev pub is_one_of : List (List ℕ) → List ℕ → Bool
is_one_of sets set = list_any (pointwise nat_eq set) sets

-- whether each subset of the set that has so many items is in the list
abbrev pub has_subsets : ℕ → List (List ℕ) → List ℕ → Bool
has_subsets size sets set = list_all (is_one_of sets) (subsets_of_size size set)

-- for sets of one size, the sets of one more of their items, all of whose subsets of that size are in the list
abbrev pub candidates_of : List (List ℕ) → List (List ℕ)
candidates_of [] = []
candidates_of (first ∷ others) =
    filter (has_subsets (length first) (first ∷ others)) (subsets_of_size (suc (length first)) (items_in (first ∷ others)))

-- a candidate rises, has one item more, and its subsets of the size are in the list
pub record IsCandidate (size : ℕ) (sets : List (List ℕ)) (set : List ℕ) : Type 0 where
  pub rises : IsRising set
  pub sized : length set ≡ size + 1
  pub subsets : (subset : List ℕ) → IsRising subset → length subset ≡ size → IsTrue (contains set subset) → Contains sets subset

-- the candidates of sets of one size are exactly the rising sets of one more item all of whose subsets of that size are in the list
abbrev pub CandidatesAreExact : Type 0
CandidatesAreExact = (size : ℕ) (sets : List (List ℕ)) (set : List ℕ) → 1 ≤ size → AreOfSize size sets →
    Contains (candidates_of sets) set ↔ IsCandidate size sets set

-- the candidates of any sets are in report order
abbrev pub CandidatesAreInReportOrder : Type 0
CandidatesAreInReportOrder = (sets : List (List ℕ)) → IsInReportOrder (candidates_of sets)

-- the candidates of sets of one size have one item more
abbrev pub CandidatesAreOneLarger : Type 0
CandidatesAreOneLarger = (size : ℕ) (sets : List (List ℕ)) → AreOfSize size sets → AreOfSize (size + 1) (candidates_of sets)
