-- Rules that meet the confidence, before their items are put together.
use Rattle.std.specs.Prelude.{ℕ, List, map, Option, Some, None}
use Rattle.basket_core.specs.Fraction.{Ratio}
use Rattle.basket_core.specs.Listing.{Listing}
use Rattle.basket_rules.specs.declared.association.Rule.{Rule}
use Rattle.basket_rules.specs.declared.rule_counts.RuleCounts.{RuleCounts}
use Rattle.basket_rules.specs.declared.confident.ConfidentRule.{ConfidentRule}
use Rattle.basket_rules.specs.declared.consequents.Sides.{Sides}
use Rattle.basket_rules.specs.Listed.{set_at, count_at}
use Rattle.basket_rules.specs.Consequents.{side_of}
use Rattle.basket_rules.specs.Rules.{confidence_by, difference, lift_by, rule_by}

-- the confidence and the lift of a rule with these counts
abbrev pub confidence_of : RuleCounts → Ratio
confidence_of counts = confidence_by counts.count counts.antecedent_count

abbrev pub lift_of : RuleCounts → Ratio
lift_of counts = lift_by counts.count counts.total counts.antecedent_count counts.consequent_count

-- the rule with these sides and counts
abbrev pub rule_from : Sides → RuleCounts → Rule
rule_from sides counts = rule_by sides.antecedent.items sides.consequent.items counts.count counts.total counts.antecedent_count counts.consequent_count

-- the rule with the set at an index as its union
abbrev pub rule_in : Listing → ℕ → ConfidentRule → Rule
rule_in listing number met =
    rule_by (difference (set_at listing.sets number) (side_of (set_at listing.sets number) met.consequent)) (side_of (set_at listing.sets number) met.consequent)
    (count_at listing.sets number) listing.total met.antecedent_count met.consequent_count

abbrev pub rules_in : Listing → ℕ → List ConfidentRule → List Rule
rules_in listing number rules = map (rule_in listing number) rules

abbrev pub found_rule : Listing → ℕ → Option ConfidentRule → Option Rule
found_rule listing number None = None
found_rule listing number (Some met) = Some (rule_in listing number met)
