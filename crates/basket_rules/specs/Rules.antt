-- Association rules (Agrawal and Srikant 1994).
use Rattle.std.specs.Prelude.{◌≡◌, ◌<◌, ℕ, ◌*◌, Bool, IsTrue, not, nat_le, nat_lt, if◌then◌else◌, List, ◌++◌, length, map, filter, Option, Some, None}
use Rattle.std.specs.List.{flat_map, AllByRecursion}
use Rattle.basket_core.specs.Fraction.{Ratio, lowest}
use Rattle.basket_core.specs.Listing.{Listing}
use Rattle.basket_sets.specs.declared.weighted.Weighted.{Weighted}
use Rattle.basket_sets.specs.declared.counted.Counted.{Counted}
use Rattle.basket_sets.specs.declared.minimum.Minimum.{Minimum}
use Rattle.basket_sets.specs.Frequent.{frequent_of}
use Rattle.basket_sets.specs.Itemset.{has, contains}
use Rattle.basket_sets.specs.Subsets.{subsets_of, IsSublist}
use Rattle.basket_sets.specs.Support.{support_of, total_of}
use Rattle.basket_rules.specs.declared.association.Rule.{Rule}
use Rattle.basket_rules.specs.declared.consequents.Consequent.{Consequent}
use Rattle.basket_rules.specs.Consistency.{count_in, IsConsistent}
use Rattle.basket_rules.specs.Listed.{IsListingOf, IsSorted, set_at}
use Rattle.basket_rules.specs.Consequents.{side_of}

-- the items of a set that another lacks
abbrev pub difference : List ℕ → List ℕ → List ℕ
difference set other = filter (λ item. not (has other item)) set

-- the consequents of the rules with this union: its nonempty subsets but itself
abbrev pub consequents_of : List ℕ → List (List ℕ)
consequents_of union = filter (λ consequent. nat_lt (length consequent) (length union)) (subsets_of union)

-- whether the rule with this union and consequent meets the confidence, a numerator and a denominator: of the baskets with the antecedent at least this share has the union
abbrev pub is_confident : List Weighted → ℕ × ℕ → List ℕ → List ℕ → Bool
is_confident baskets confidence union consequent =
    nat_le (confidence.0 * support_of baskets (difference union consequent)) (support_of baskets union * confidence.1)

-- the share of the baskets with the antecedent that have the consequent too
abbrev pub confidence_by : (count antecedent_count : ℕ) → Ratio
confidence_by count antecedent_count = lowest count antecedent_count

-- how many times as often the consequent occurs beside the antecedent as in all baskets
abbrev pub lift_by : (count total antecedent_count consequent_count : ℕ) → Ratio
lift_by count total antecedent_count consequent_count = lowest (count * total) (antecedent_count * consequent_count)

-- the rule with these sides and supports
abbrev pub rule_by : (antecedent consequent : List ℕ) (count total antecedent_count consequent_count : ℕ) → Rule
rule_by antecedent consequent count total antecedent_count consequent_count = record {
  antecedent = antecedent;
  consequent = consequent;
  count = count;
  confidence = confidence_by count antecedent_count;
  lift = lift_by count total antecedent_count consequent_count;
}

-- the rule with this union and consequent
abbrev pub rule_of : List Weighted → List ℕ → List ℕ → Rule
rule_of baskets union consequent =
    rule_by (difference union consequent) consequent (support_of baskets union) (total_of baskets) (support_of baskets (difference union consequent)) (support_of baskets consequent)

-- the rules with this union that meet the confidence, by their consequents in report order
abbrev pub rules_with : List Weighted → ℕ × ℕ → List ℕ → List Rule
rules_with baskets confidence union = map (rule_of baskets union) (filter (is_confident baskets confidence union) (consequents_of union))

-- the rules of the frequent sets, union after union
abbrev pub rules_of : List Weighted → Minimum → ℕ × ℕ → List Rule
rules_of baskets minimum confidence = flat_map (λ c. rules_with baskets confidence c.set) (frequent_of baskets minimum)

-- the same by the counts of a listing, and not by baskets: whether the rule with this union and consequent meets the confidence
abbrev pub is_confident_among : Listing → ℕ × ℕ → List ℕ → List ℕ → Bool
is_confident_among listing confidence union consequent =
    nat_le (confidence.0 * count_in listing.sets (difference union consequent)) (count_in listing.sets union * confidence.1)

-- that rule
abbrev pub rule_among : Listing → List ℕ → List ℕ → Rule
rule_among listing union consequent =
    rule_by (difference union consequent) consequent (count_in listing.sets union) listing.total (count_in listing.sets (difference union consequent)) (count_in listing.sets consequent)

-- the rules of a listing with this union that meet the confidence, by their consequents in report order
abbrev pub rules_among_with : Listing → ℕ × ℕ → List ℕ → List Rule
rules_among_with listing confidence union = map (rule_among listing union) (filter (is_confident_among listing confidence union) (consequents_of union))

-- the rules of a listing, union after union
abbrev pub rules_among : Listing → ℕ × ℕ → List Rule
rules_among listing confidence = flat_map (λ c. rules_among_with listing confidence c.set) listing.sets

-- the list of the frequent sets decides their rules
abbrev pub ListDecidesRules : Type 0
ListDecidesRules = (baskets : List Weighted) (minimum : Minimum) (confidence : ℕ × ℕ)
    → rules_of baskets minimum confidence ≡ rules_among (record { sets = frequent_of baskets minimum; total = total_of baskets }) confidence

-- where the rule with a consequent meets a confidence, so does the one with the same union and a part of that consequent
abbrev pub ConfidenceFalls : Type 0
ConfidenceFalls = (baskets : List Weighted) (confidence : ℕ × ℕ) (union consequent part : List ℕ) → IsTrue (contains consequent part)
    → IsTrue (is_confident baskets confidence union consequent) → IsTrue (is_confident baskets confidence union part)

-- what a list of the rules of a listing is, and of those with one of its sets as their union
abbrev pub AreRules : Listing → ℕ × ℕ → List Rule → Type 0
AreRules listing confidence rules = (baskets : List Weighted) (minimum : Minimum) → IsListingOf baskets minimum listing → rules ≡ rules_of baskets minimum confidence

abbrev pub AreRulesWith : Listing → ℕ × ℕ → ℕ → List Rule → Type 0
AreRulesWith listing confidence number rules =
    (baskets : List Weighted) (minimum : Minimum) → IsListingOf baskets minimum listing → rules ≡ rules_with baskets confidence (set_at listing.sets number)

-- the count of a set, if the list is sorted
abbrev pub IsCountIn : List Counted → List ℕ → ℕ → Type 0
IsCountIn list set count = IsSorted list → count ≡ count_in list set

-- a consequent of a rule with the set at an index as its union
abbrev pub IsConsequent : Listing → ℕ → List ℕ → Type 0
IsConsequent listing number consequent = IsSublist (set_at listing.sets number) consequent × (length consequent < length (set_at listing.sets number))

-- the rule with the set at an index as its union and this consequent, where it meets the confidence
abbrev pub IsRuleFor : Listing → ℕ × ℕ → ℕ → List ℕ → Option Rule → Type 0
IsRuleFor listing confidence number consequent found = IsConsistent listing.sets → IsConsequent listing number consequent
    → found ≡ (if is_confident_among listing confidence (set_at listing.sets number) consequent then Some (rule_among listing (set_at listing.sets number) consequent) else None)

-- what is kept of some consequents, and the rules after adding those of the ones that meet the confidence
abbrev pub KeepsConfident : Listing → ℕ × ℕ → ℕ → List Consequent → List Consequent → List Rule → List Rule → Type 0
KeepsConfident listing confidence number tried met old new =
    IsConsistent listing.sets → AllByRecursion (λ consequent. IsConsequent listing number (side_of (set_at listing.sets number) consequent)) tried
    → (met ≡ filter (λ consequent. is_confident_among listing confidence (set_at listing.sets number) (side_of (set_at listing.sets number) consequent)) tried)
    × (new ≡ old ++ map (λ consequent. rule_among listing (set_at listing.sets number) (side_of (set_at listing.sets number) consequent)) met)
