-- Support falls as a set grows, adds up over parts, and is above nothing only for sets of the database's items.
use Rattle.std.proofs.Common.{◌≡◌, ℕ, ◌+◌, ◌≤◌, true, List, [], ◌∷◌, ◌++◌, refl, inl, inr, arith}
use Rattle.std.proofs.lemmas.Grind.{common_steps}
use Rattle.std.specs.List.{flat_map}
use Rattle.std.proofs.lemmas.List.Sums.{sum_by-append, sum_by-cons, sum_by-le-sum_by}
use Rattle.std.proofs.lemmas.Bool.{cases_Bool, cond_both, cond-false}
use Rattle.basket_sets.specs.declared.weighted.Weighted.{Weighted}
use Rattle.basket_sets.specs.declared.minimum.Minimum.{Minimum}
use Rattle.basket_sets.specs.Itemset.{contains}
use Rattle.basket_sets.specs.Minimum.{meets}
use Rattle.basket_sets.specs.Support.{weight_at, support_of, total_of, items_of, SupportFalls, SupportsAddUp}
use Rattle.basket_sets.specs.Frequent.{is_frequent, SubsetsAreFrequent, FrequentSetsHaveItems}
use Rattle.basket_sets.proofs.theory.Members.{Member, Member-append_left, Member-append_right}
use Rattle.basket_sets.proofs.theory.Rising.{has_each, contains_each, contains-trans, Member-into_rising}

weight_at-contains : (receipt : Weighted) (set subset : List ℕ) → contains set subset ≡ true → weight_at set receipt ≤ weight_at subset receipt
weight_at-contains receipt set subset h = grind (arith, common_steps, cond_both, contains-trans)

-- a set has at most the support of its subsets
pub support_falls : SupportFalls
support_falls baskets set subset h = sum_by-le-sum_by (weight_at set) (weight_at subset) baskets (λ receipt. weight_at-contains receipt set subset h)

-- supports over two lists of baskets add up
pub support-append : (a b : List Weighted) (set : List ℕ) → support_of (a ++ b) set ≡ support_of a set + support_of b set
support-append a b set = sum_by-append (weight_at set) a b

-- a basket more
pub support-cons : (receipt : Weighted) (baskets : List Weighted) (set : List ℕ) → support_of (receipt ∷ baskets) set ≡ weight_at set receipt + support_of baskets set
support-cons receipt baskets set = sum_by-cons (weight_at set) receipt baskets

-- supports over the parts of a list of baskets add up
pub supports_add_up : SupportsAddUp
supports_add_up [] set = refl
supports_add_up (part ∷ parts) set = grind (arith, common_steps, supports_add_up parts set)

-- a set of some support stands in some basket, whose items are the database's
pub in_items : (baskets : List Weighted) (set : List ℕ) → 1 ≤ support_of baskets set → (item : ℕ) → Member item set → Member item (flat_map (λ receipt. receipt.basket) baskets)
in_items [] set some item m = absurd (omega arith)
in_items (receipt ∷ baskets) set some item m = elim (cases_Bool (contains receipt.basket set)) [
  | inl e ↦ Member-append_left item receipt.basket (flat_map (λ p. p.basket) baskets) (has_each receipt.basket set e item m)
  | inr e ↦ Member-append_right item receipt.basket (flat_map (λ p. p.basket) baskets)
      (in_items baskets set (let z = cond-false (contains receipt.basket set) receipt.weight 0 e in let c = support-cons receipt baskets set in omega arith) item m)
]

-- ---- minimums

-- what meets a minimum still meets it with more support
pub meets_more : (minimum : Minimum) (support more total : ℕ) → support ≤ more → meets minimum support total ≡ true → meets minimum more total ≡ true
meets_more h1 h2 h3 h4 h5 h6 = grind (arith, common_steps)

-- the subsets of a frequent set are frequent
pub subsets_are_frequent : SubsetsAreFrequent
subsets_are_frequent baskets minimum set subset h k =
    meets_more minimum (support_of baskets set) (support_of baskets subset) (total_of baskets) (support_falls baskets set subset h) k

-- a support that meets a minimum is at least 1
pub at_least_one : (minimum : Minimum) (support total : ℕ) → meets minimum support total ≡ true → 1 ≤ support
at_least_one h1 h2 h3 h4 = grind (arith, common_steps)

-- a frequent set has items of the database
pub frequent_items : (baskets : List Weighted) (minimum : Minimum) (set : List ℕ) → is_frequent baskets minimum set ≡ true → (item : ℕ) → Member item set → Member item (items_of baskets)
frequent_items baskets minimum set h item m = grind (arith, common_steps, Member-into_rising, in_items, at_least_one)

-- the items of the database contain a frequent set
pub frequent_sets_have_items : FrequentSetsHaveItems
frequent_sets_have_items baskets minimum set h = contains_each (items_of baskets) set (frequent_items baskets minimum set h)
