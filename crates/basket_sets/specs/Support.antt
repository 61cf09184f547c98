use Rattle.std.specs.Prelude.{◌≡◌, ◌≤◌, ℕ, IsTrue, List, [], if◌then◌else◌}
use Rattle.std.specs.List.{sum_by, flat_map}
use Rattle.basket_sets.specs.declared.weighted.Weighted.{Weighted}
use Rattle.basket_sets.specs.Itemset.{contains, rising}

-- what a weighted basket adds to the support of a set: its weight where it contains the set, else nothing
abbrev pub weight_at : List ℕ → Weighted → ℕ
weight_at set receipt = if contains receipt.basket set then receipt.weight else 0

-- the support of a set: the sum of the weights of the baskets that contain it
abbrev pub support_of : List Weighted → List ℕ → ℕ
support_of baskets set = sum_by (weight_at set) baskets

-- the total weight, which is the support of the empty set
abbrev pub total_of : List Weighted → ℕ
total_of baskets = support_of baskets []

-- the items of all baskets, one basket after another
abbrev pub all_items : List Weighted → List ℕ
all_items baskets = flat_map (λ receipt. receipt.basket) baskets

-- the items of a database: the rising list of the numbers that are in some basket
abbrev pub items_of : List Weighted → List ℕ
items_of baskets = rising (all_items baskets)

-- the support of a set is at most that of each of its subsets
abbrev pub SupportFalls : Type 0
SupportFalls = (baskets : List Weighted) (set subset : List ℕ) → IsTrue (contains set subset) → support_of baskets set ≤ support_of baskets subset

-- the supports over the parts of a cut list of baskets add up to the support over the whole
abbrev pub SupportsAddUp : Type 0
SupportsAddUp = (parts : List (List Weighted)) (set : List ℕ) → support_of (flat_map (λ part. part) parts) set ≡ sum_by (λ part. support_of part set) parts
