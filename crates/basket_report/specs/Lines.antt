-- Lines of numbers.
use Rattle.std.specs.Prelude.{ℕ, List, [], ◌∷◌, ◌++◌, codes, decimal}
use Rattle.std.specs.List.{flat_map}
use Rattle.basket_core.specs.Fraction.{Ratio}
use Rattle.basket_sets.specs.declared.counted.Counted.{Counted}
use Rattle.basket_rules.specs.declared.association.Rule.{Rule}
use Rattle.basket_report.specs.Texts.{ratio_text}

-- the items of a set with a space after each
abbrev pub items_text : List ℕ → List ℕ
items_text items = flat_map (λ item. decimal item ++ 32 ∷ []) items

-- the line of a set: its items, the count in parentheses, a line feed
abbrev pub set_line : Counted → List ℕ
set_line counted = items_text counted.set ++ codes "(" ++ decimal counted.count ++ codes ")\n"

-- the sides of a rule
abbrev pub sides_text : List ℕ → List ℕ → List ℕ
sides_text antecedent consequent = items_text antecedent ++ codes "=> " ++ items_text consequent

-- the confidence and the lift of a rule, with a space between
abbrev pub ratios_text : Ratio → Ratio → List ℕ
ratios_text confidence lift = ratio_text confidence ++ 32 ∷ ratio_text lift

-- a count in parentheses
abbrev pub count_text : ℕ → List ℕ
count_text count = 40 ∷ decimal count ++ 41 ∷ []

-- the line of a rule: its sides, the count in parentheses, a space, the confidence, a space, the lift, a line feed
abbrev pub rule_line : Rule → List ℕ
rule_line rule = sides_text rule.antecedent rule.consequent ++ codes "(" ++ decimal rule.count ++ codes ") " ++ ratios_text rule.confidence rule.lift ++ 10 ∷ []
