-- The rule with a consequent, in a consistent listing: its antecedent is listed, and its confidence falls as the consequent grows.
use Rattle.std.proofs.Common.{leb, ◌≡◌, ℕ, ◌*◌, ◌<◌, ◌≤◌, Bool, true, false, ltb, ◌&&◌, cond, List, length, Option, Some, None, IfSome, IfNone, ◌⊎◌, refl, sym, ap, ◌∙◌, subst, inl, inr, arith}
use Rattle.std.proofs.lemmas.Grind.{common_steps}
use Rattle.std.proofs.lemmas.Bool.{and_parts, ltb-true}
use Rattle.basket_core.specs.Fraction.{lowest}
use Rattle.basket_core.specs.Listing.{Listing}
use Rattle.basket_sets.specs.Frequent.{IsNonemptySet}
use Rattle.basket_sets.specs.Itemset.{IsRising, contains}
use Rattle.basket_sets.proofs.theory.Rising.{has_each, length-le-contains}
use Rattle.basket_rules.specs.declared.association.Rule.{Rule}
use Rattle.basket_rules.specs.declared.confident.ConfidentRule.{ConfidentRule}
use Rattle.basket_rules.specs.declared.consequents.Consequent.{Consequent}
use Rattle.basket_rules.specs.Consistency.{count_in, IsConsistent}
use Rattle.basket_rules.specs.Listed.{set_at, count_at}
use Rattle.basket_rules.specs.Confident.{found_rule, rule_in}
use Rattle.basket_rules.specs.Consequents.{side_of}
use Rattle.basket_rules.specs.Rules.{difference, is_confident_among, rule_among, IsCountIn, IsConsequent, IsRuleFor}
use Rattle.basket_rules.proofs.theory.Consistency.{Stands, count_at_index, count_of_standing, set_nonempty, some_count, subset_stands}
use Rattle.basket_rules.proofs.theory.Rules.{contains_difference, difference-rises, difference_falls, difference_left}

-- ---- the antecedent

-- whether a consequent is smaller than the union, and its rule meets the confidence
abbrev pub is_met : Listing → ℕ × ℕ → List ℕ → List ℕ → Bool
is_met listing confidence union consequent = ltb (length consequent) (length union) && is_confident_among listing confidence union consequent

module _ (listing : Listing) (number : ℕ) (within : number < length listing.sets) (consistent : IsConsistent listing.sets) where
  left_nonempty : (consequent : List ℕ) → IsRising consequent → length consequent < length (set_at listing.sets number) → IsNonemptySet (difference (set_at listing.sets number) consequent)
  left_nonempty consequent up less = grind (arith, common_steps, set_nonempty, difference-rises, difference_left)

  -- what is left of a union is listed
  antecedent_stands : (consequent : List ℕ) → IsRising consequent → length consequent < length (set_at listing.sets number)
      → Stands listing.sets (difference (set_at listing.sets number) consequent) (count_at listing.sets number)
  antecedent_stands consequent up less = grind (arith, common_steps, subset_stands, left_nonempty, contains_difference)

  -- where one is and does, so is and does each part of it
  pub met_falls : (confidence : ℕ × ℕ) (consequent part : List ℕ) → IsRising consequent → IsRising part → contains consequent part ≡ true → is_met listing confidence (set_at listing.sets number) consequent ≡ true
      → is_met listing confidence (set_at listing.sets number) part ≡ true
  met_falls confidence consequent part up rises h met =
      let union = set_at listing.sets number in
      let list = listing.sets in
      let tests = and_parts (ltb (length consequent) (length union)) (is_confident_among listing confidence union consequent) met in
      let less = ltb-true (length consequent) (length union) tests.0 in
      let shorter = length-le-contains part consequent rises up (has_each consequent part h) in
      let fewer : length part < length union = omega (arith, less, shorter) in
      let larger = antecedent_stands part rises fewer in
      let smaller = antecedent_stands consequent up less in
      let below = subset_stands list consistent larger.index (difference union consequent) larger.listed (left_nonempty consequent up less)
      (subst (λ t. contains t (difference union consequent) ≡ true) (sym larger.is) (difference_falls union consequent part h)) in
      let one = count_of_standing list (difference union part) (count_at list number) consistent.in_order larger in
      let other = count_of_standing list (difference union consequent) (count_at list larger.index) consistent.in_order below in
      let bound : count_in list (difference union part) ≤ count_in list (difference union consequent) = omega (arith, one, other, below.enough) in
      grind (arith, common_steps)

-- ---- the rule with a consequent

module _ (listing : Listing) (number : ℕ) (within : number < length listing.sets) (consequent : List ℕ) where
  module _ (consistent : IsConsistent listing.sets) (side : IsConsequent listing number consequent) where
    -- the count of a set that stands in the list
    standing : (set : List ℕ) (count : ℕ) → Stands listing.sets set (count_at listing.sets number) → IsCountIn listing.sets set count → 1 ≤ count
    standing set count s says =
        let is = says consistent.in_order ∙ count_of_standing listing.sets set (count_at listing.sets number) consistent.in_order s in
        let some = some_count listing.sets consistent number within in
        omega (arith, is, s.enough, some)

    pub some_antecedent : (count : ℕ) → IsCountIn listing.sets (difference (set_at listing.sets number) consequent) count → 1 ≤ count
    some_antecedent count = standing (difference (set_at listing.sets number) consequent) count (antecedent_stands listing number within consistent consequent side.0.0 side.1)

    pub some_consequent : (count : ℕ) → IsCountIn listing.sets consequent count → 1 ≤ count
    some_consequent count = standing consequent count (subset_stands listing.sets consistent number consequent within (side.0.0, side.0.1) side.0.2)

    whole_count : count_at listing.sets number ≡ count_in listing.sets (set_at listing.sets number)
    whole_count = sym (count_at_index listing.sets number consistent.in_order within)

  -- by the counts that were found, the rule meets the confidence or doesn't
  tested : (confidence : ℕ × ℕ) (antecedent_count : ℕ) (b : Bool) → IsConsistent listing.sets → IsConsequent listing number consequent → IsCountIn listing.sets (difference (set_at listing.sets number) consequent) antecedent_count
      → leb (confidence.0 * antecedent_count) (count_at listing.sets number * confidence.1) ≡ b → is_confident_among listing confidence (set_at listing.sets number) consequent ≡ b
  tested confidence antecedent_count b consistent side antecedent_is test = grind (arith, common_steps, whole_count)

  pub no_rule : (confidence : ℕ × ℕ) (antecedent_count : ℕ) → IsCountIn listing.sets (difference (set_at listing.sets number) consequent) antecedent_count
      → leb (confidence.0 * antecedent_count) (count_at listing.sets number * confidence.1) ≡ false → IsRuleFor listing confidence number consequent None
  no_rule confidence antecedent_count antecedent_is test consistent side = grind (arith, common_steps, tested confidence antecedent_count false consistent side antecedent_is test)

  pub a_rule : (confidence : ℕ × ℕ) (antecedent_count consequent_count : ℕ) (rule : Rule) → IsCountIn listing.sets (difference (set_at listing.sets number) consequent) antecedent_count → IsCountIn listing.sets consequent consequent_count
      → leb (confidence.0 * antecedent_count) (count_at listing.sets number * confidence.1) ≡ true
      → rule.antecedent ≡ difference (set_at listing.sets number) consequent → rule.consequent ≡ consequent → rule.count ≡ count_at listing.sets number
      → rule.confidence ≡ lowest (count_at listing.sets number) antecedent_count
      → rule.lift ≡ lowest (count_at listing.sets number * listing.total) (antecedent_count * consequent_count)
      → IsRuleFor listing confidence number consequent (Some rule)
  a_rule confidence antecedent_count consequent_count rule antecedent_is consequent_is test e_antecedent e_consequent e_count e_confidence e_lift consistent side =
      ap Some same ∙ sym (ap (λ b. cond b (Some (rule_among listing (set_at listing.sets number) consequent)) None) (tested confidence antecedent_count true consistent side antecedent_is test))
    where
      u : count_at listing.sets number ≡ count_in listing.sets (set_at listing.sets number)
      u = whole_count consistent side

      l : antecedent_count ≡ count_in listing.sets (difference (set_at listing.sets number) consequent)
      l = antecedent_is consistent.in_order

      r : consequent_count ≡ count_in listing.sets consequent
      r = consequent_is consistent.in_order

      share : rule.confidence ≡ lowest (count_in listing.sets (set_at listing.sets number)) (count_in listing.sets (difference (set_at listing.sets number) consequent))
      share = e_confidence ∙ (λ i. lowest (u i) (l i))

      lift : rule.lift ≡ lowest (count_in listing.sets (set_at listing.sets number) * listing.total) (count_in listing.sets (difference (set_at listing.sets number) consequent) * count_in listing.sets consequent)
      lift = e_lift ∙ (λ i. lowest (u i * listing.total) (l i * r i))

      same : rule ≡ rule_among listing (set_at listing.sets number) consequent
      same = λ i. record { antecedent = e_antecedent i; consequent = e_consequent i; count = (e_count ∙ u) i; confidence = share i; lift = lift i }

-- the rule that is found for a consequent, with the counts of both sides
pub a_found_rule : (listing : Listing) (number : ℕ) → number < length listing.sets → (consequent : Consequent) (confidence : ℕ × ℕ) (antecedent_count consequent_count : ℕ) (found : Option ConfidentRule)
    → IsCountIn listing.sets (difference (set_at listing.sets number) (side_of (set_at listing.sets number) consequent)) antecedent_count
    → IsCountIn listing.sets (side_of (set_at listing.sets number) consequent) consequent_count
    → leb (confidence.0 * antecedent_count) (count_at listing.sets number * confidence.1) ≡ true
    → IfSome found (λ met. (met.consequent ≡ consequent) × (met.antecedent_count ≡ antecedent_count) × (met.consequent_count ≡ consequent_count))
    → IfNone found ((antecedent_count ≡ 0) ⊎ (consequent_count ≡ 0))
    → IsRuleFor listing confidence number (side_of (set_at listing.sets number) consequent) (found_rule listing number found)
a_found_rule listing number within consequent confidence antecedent_count consequent_count (Some met) antecedent_is consequent_is test some none =
    let union = set_at listing.sets number in
    let count = count_at listing.sets number in
    a_rule listing number within (side_of union consequent) confidence antecedent_count consequent_count (rule_in listing number met) antecedent_is consequent_is test
    (ap (λ r. difference union (side_of union r)) some.0) (ap (side_of union) some.0) refl
    (ap (lowest count) some.1) (λ i. lowest (count * listing.total) (some.1 i * some.2 i))
a_found_rule listing number within consequent confidence antecedent_count consequent_count None antecedent_is consequent_is test some none = λ consistent side.
    let set = side_of (set_at listing.sets number) consequent in
    let antecedent = some_antecedent listing number within set consistent side antecedent_count antecedent_is in
    let other = some_consequent listing number within set consistent side consequent_count consequent_is in
    elim none [ inl e ↦ absurd (omega (arith, antecedent, e)) | inr e ↦ absurd (omega (arith, other, e)) ]
