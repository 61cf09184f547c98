-- The confidence of rules falls as the consequent grows, and the list of the frequent sets decides their rules.
use Rattle.std.proofs.Common.{leb, ◌≡◌, ◌≢◌, ℕ, ◌*◌, ◌<◌, ◌≤◌, true, false, not, ltb, List, [], length, map, filter, get_or, sym, ap, ◌∙◌, subst, arith}
use Rattle.std.proofs.lemmas.Grind.{common_steps}
use Rattle.std.proofs.lemmas.Bool.{cases_Bool, ltb-true, true≢false, false_from_ne_true}
use Rattle.std.proofs.lemmas.List.Kept.{IsStrictlySortedBy-filter}
use Rattle.std.specs.Ordering.{nat_cmp}
use Rattle.basket_core.specs.Fraction.{lowest}
use Rattle.basket_core.specs.Listing.{Listing}
use Rattle.basket_sets.specs.declared.weighted.Weighted.{Weighted}
use Rattle.basket_sets.specs.declared.minimum.Minimum.{Minimum}
use Rattle.basket_sets.specs.Frequent.{is_frequent, frequent_of, IsNonemptySet}
use Rattle.basket_sets.specs.Itemset.{IsRising, has, contains}
use Rattle.basket_sets.specs.Subsets.{subsets_of}
use Rattle.basket_sets.specs.Support.{support_of, total_of}
use Rattle.basket_sets.proofs.theory.Members.{Member, Member-filter, Member-from_filter, map_members}
use Rattle.basket_sets.proofs.theory.Rising.{has_each, contains_each, has-from_Member, Member-from_has, length-le-contains}
use Rattle.basket_sets.proofs.theory.Subsets.{subset_from_Member}
use Rattle.basket_sets.proofs.theory.Support.{support_falls, subsets_are_frequent}
use Rattle.basket_rules.specs.declared.association.Rule.{Rule}
use Rattle.basket_rules.specs.Consistency.{count_in, IsConsistent}
use Rattle.basket_rules.specs.Listed.{IsListingOf, set_at}
use Rattle.basket_rules.specs.Rules.{difference, consequents_of, is_confident, rule_of, rules_with, is_confident_among, rule_among, rules_among_with, rules_among, ConfidenceFalls, ListDecidesRules, AreRules, AreRulesWith}
use Rattle.basket_rules.proofs.SearchLemmas.{none, set_is, entry_listed}
use Rattle.basket_rules.proofs.SubsetLemmas.{not_true, true_not, flat_map_same}
use Rattle.basket_sets.proofs.theory.Ranges.{filter_members}
use Rattle.basket_rules.proofs.theory.Consistency.{count_is_support, frequent_is_consistent, sound_of}

-- ---- what is left of a set

Member-difference : (set other : List ℕ) (item : ℕ) → Member item (difference set other) → Member item set × (has other item ≡ false)
Member-difference set other item m = let p = Member-filter (λ i. not (has other i)) item set m in (p.0, true_not (has other item) p.1)

into_difference : (set other : List ℕ) (item : ℕ) → Member item set → has other item ≡ false → Member item (difference set other)
into_difference set other item m lack = Member-from_filter (λ i. not (has other i)) item set m (not_true (has other item) lack)

pub difference-rises : (set other : List ℕ) → IsRising set → IsRising (difference set other)
difference-rises set other up = IsStrictlySortedBy-filter nat_cmp (λ i. not (has other i)) set up

-- the larger what is taken away, the smaller what is left
pub difference_falls : (set larger smaller : List ℕ) → contains larger smaller ≡ true → contains (difference set smaller) (difference set larger) ≡ true
difference_falls set larger smaller h = contains_each (difference set smaller) (difference set larger) (λ item m.
    let p = Member-difference set larger item m in
    into_difference set smaller item p.0 (false_from_ne_true (has smaller item) (λ e.
    true≢false (sym (has-from_Member larger item (has_each larger smaller h item (Member-from_has smaller item e))) ∙ p.1))))

pub contains_difference : (set other : List ℕ) → contains set (difference set other) ≡ true
contains_difference set other = contains_each set (difference set other) (λ item m. (Member-difference set other item m).0)

-- something is left of a larger set
pub difference_left : (set other : List ℕ) → IsRising set → IsRising other → length other < length set → difference set other ≢ []
difference_left set other up over less e = grind (arith, common_steps, length-le-contains, cases_Bool, Member-from_has, Member, into_difference)

-- ---- confidence

pub confidence_falls : ConfidenceFalls
confidence_falls baskets confidence union consequent part h k =
    let bound = support_falls baskets (difference union part) (difference union consequent) (difference_falls union consequent part h) in
    grind (arith, common_steps)

-- ---- the list decides

abbrev listing_of : List Weighted → Minimum → Listing
listing_of baskets minimum = record { sets = frequent_of baskets minimum; total = total_of baskets }

module _ (baskets : List Weighted) (minimum : Minimum) (union : List ℕ) (nonempty : IsNonemptySet union) (often : is_frequent baskets minimum union ≡ true) where
  -- the counts of the union and of the sides of its rules are supports
  pub record AreSupports (consequent : List ℕ) : Type 0 where
    pub whole : support_of baskets union ≡ count_in (frequent_of baskets minimum) union
    pub rest : support_of baskets (difference union consequent) ≡ count_in (frequent_of baskets minimum) (difference union consequent)
    pub side : support_of baskets consequent ≡ count_in (frequent_of baskets minimum) consequent

  are_supports : (consequent : List ℕ) → Member consequent (consequents_of union) → AreSupports consequent
  are_supports consequent m =
      let p = Member-filter (λ r. ltb (length r) (length union)) consequent (subsets_of union) m in
      let s = subset_from_Member union consequent nonempty.0 p.0 in
      let antecedent = difference union consequent in
      let some = difference_left union consequent nonempty.0 s.0 (ltb-true (length consequent) (length union) p.1) in
      record {
        whole = sym (count_is_support baskets minimum union nonempty often);
        rest = sym (count_is_support baskets minimum antecedent (difference-rises union consequent nonempty.0, some) (subsets_are_frequent baskets minimum union antecedent (contains_difference union consequent) often));
        side = sym (count_is_support baskets minimum consequent (s.0, s.1) (subsets_are_frequent baskets minimum union consequent (contains_each union consequent s.2) often));
      }

  pub rules_with_by_list : (confidence : ℕ × ℕ) → rules_with baskets confidence union ≡ rules_among_with (listing_of baskets minimum) confidence union
  rules_with_by_list confidence =
      map_members (rule_of baskets union) (rule_among (listing_of baskets minimum) union) (filter (is_confident baskets confidence union) (consequents_of union))
      (λ consequent m. rule consequent (are_supports consequent (Member-filter (is_confident baskets confidence union) consequent (consequents_of union) m).0))
      ∙ ap (map (rule_among (listing_of baskets minimum) union))
      (filter_members (is_confident baskets confidence union) (is_confident_among (listing_of baskets minimum) confidence union) (consequents_of union)
      (λ consequent m. test consequent (are_supports consequent m)))
    where
      rule : (consequent : List ℕ) → AreSupports consequent → rule_of baskets union consequent ≡ rule_among (listing_of baskets minimum) union consequent
      rule consequent are = λ i. record {
        antecedent = difference union consequent;
        consequent = consequent;
        count = are.whole i;
        confidence = lowest (are.whole i) (are.rest i);
        lift = lowest (are.whole i * total_of baskets) (are.rest i * are.side i);
      }

      test : (consequent : List ℕ) → AreSupports consequent → is_confident baskets confidence union consequent ≡ is_confident_among (listing_of baskets minimum) confidence union consequent
      test consequent are = λ i. leb (confidence.0 * are.rest i) (are.whole i * confidence.1)

pub list_decides_rules : ListDecidesRules
list_decides_rules baskets minimum confidence = grind (arith, common_steps, flat_map_same, sound_of, rules_with_by_list)

-- ---- so the rules of a listing are those of baskets whose listing it is

listing_is : (baskets : List Weighted) (minimum : Minimum) (listing : Listing) → IsListingOf baskets minimum listing → listing ≡ listing_of baskets minimum
listing_is baskets minimum listing is = λ i. record { sets = is.sets i; total = is.total i }

pub rules_of_baskets : (listing : Listing) (confidence : ℕ × ℕ) (rules : List Rule) → (IsConsistent listing.sets → rules ≡ rules_among listing confidence) → AreRules listing confidence rules
rules_of_baskets listing confidence rules so baskets minimum is =
    so (subst IsConsistent (sym is.sets) (frequent_is_consistent baskets minimum))
    ∙ ap (λ l. rules_among l confidence) (listing_is baskets minimum listing is) ∙ sym (list_decides_rules baskets minimum confidence)

pub rules_with_of_baskets : (listing : Listing) (confidence : ℕ × ℕ) (number : ℕ) (rules : List Rule) → number < length listing.sets
    → (IsConsistent listing.sets → rules ≡ rules_among_with listing confidence (set_at listing.sets number)) → AreRulesWith listing confidence number rules
rules_with_of_baskets listing confidence number rules below so baskets minimum is =
    let union = set_at listing.sets number in
    let c = get_or listing.sets number none in
    let sound = sound_of baskets minimum c (subst (Member c) is.sets (entry_listed listing.sets number below)) in
    let here = sym (set_is listing.sets number none below) in
    so (subst IsConsistent (sym is.sets) (frequent_is_consistent baskets minimum))
    ∙ ap (λ l. rules_among_with l confidence union) (listing_is baskets minimum listing is)
    ∙ sym (rules_with_by_list baskets minimum union (subst IsNonemptySet here sound.0) (subst (λ t. is_frequent baskets minimum t ≡ true) here sound.1) confidence)
