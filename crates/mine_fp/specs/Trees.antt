-- The conditional trees of FP-growth, by number.
use Rattle.std.specs.Prelude.{◌||◌, ◌&&◌, not, ℕ, Bool, List, [], ◌∷◌, filter, length, nat_lt, if◌then◌else◌}
use Rattle.std.specs.List.{flat_map, list_all}
use Rattle.basket_ranks.specs.Codes.{Coding}
use Rattle.basket_sets.specs.declared.weighted.Weighted.{Weighted}
use Rattle.basket_sets.specs.declared.minimum.Minimum.{Minimum}
use Rattle.basket_sets.specs.Frequent.{frequent_of, is_frequent}
use Rattle.basket_sets.specs.Itemset.{contains}
use Rattle.mine_classes.specs.Classes.{class_of}
use Rattle.mine_fp.specs.Tree.{begins}

-- whether a rank is below the least of a set, and frequent together with it
abbrev pub joins : List Weighted → Minimum → List ℕ → ℕ → Bool
joins baskets minimum [] rank = is_frequent baskets minimum (rank ∷ [])
joins baskets minimum (first ∷ others) rank = nat_lt rank first && is_frequent baskets minimum (rank ∷ first ∷ others)

-- the baskets that contain a set, each kept to the ranks that join it
abbrev pub paths_below : List Weighted → Minimum → List ℕ → List (List ℕ)
paths_below baskets minimum set =
    flat_map (λ one. if contains one.basket set then filter (joins baskets minimum set) one.basket ∷ [] else []) baskets

-- whether of any two paths one begins the other
abbrev pub is_one_branch : List (List ℕ) → Bool
is_one_branch paths = list_all (λ path. list_all (λ other. begins path other || begins other path) paths) paths

-- whether the conditional tree of a set has a single branch
abbrev pub is_straight : List Weighted → Minimum → List ℕ → Bool
is_straight baskets minimum set = is_one_branch (paths_below baskets minimum set)

-- the greatest ranks of a set, so many of them: some, and not all
abbrev pub upper_parts : List ℕ → List (List ℕ)
upper_parts [] = []
upper_parts (first ∷ []) = []
upper_parts (first ∷ second ∷ others) = (second ∷ others) ∷ upper_parts (second ∷ others)

-- whether a tree is made for a frequent set: no upper part has a single branch, from which the set would be read off
abbrev pub has_tree : List Weighted → Minimum → List ℕ → Bool
has_tree baskets minimum set = list_all (λ part. not (is_straight baskets minimum part)) (upper_parts set)

-- how many trees are made for a class of coded baskets
abbrev pub class_trees : Coding → ℕ → ℕ
class_trees coding rank = length (filter (λ c. has_tree coding.baskets coding.minimum c.set) (class_of coding.baskets coding.minimum rank))

-- and for all
abbrev pub trees_of : Coding → ℕ
trees_of coding = length (filter (λ c. has_tree coding.baskets coding.minimum c.set) (frequent_of coding.baskets coding.minimum))
