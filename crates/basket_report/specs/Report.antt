-- The text of a report.
use Rattle.std.specs.Prelude.{◌≡◌, ℕ, List}
use Rattle.std.specs.List.{flat_map}
use Rattle.basket_sets.specs.declared.counted.Counted.{Counted}
use Rattle.basket_rules.specs.declared.association.Rule.{Rule}
use Rattle.basket_report.specs.declared.report.Report.{Report}
use Rattle.basket_report.specs.declared.report.Report.TheVariants as report
use Rattle.basket_report.specs.Lines.{set_line, rule_line}
use Rattle.basket_report.specs.Style.{Wording, Numbered, Named}
use Rattle.basket_report.specs.Table.{HasText, set_record, rule_record}

-- a set with its count
abbrev pub set_of : List ℕ → ℕ → Counted
set_of items count = record { set = items; count = count }

-- the text of a set
abbrev pub set_text : Wording → Counted → List ℕ
set_text Numbered counted = set_line counted
set_text (Named separator names) counted = set_record separator names counted

-- the text of a rule
abbrev pub rule_text : Wording → Rule → List ℕ
rule_text Numbered rule = rule_line rule
rule_text (Named separator names) rule = rule_record separator names rule

-- the texts of sets, one after another
abbrev pub report_of : Wording → List Counted → List ℕ
report_of wording sets = flat_map (set_text wording) sets

-- the texts of rules
abbrev pub rules_report_of : Wording → List Rule → List ℕ
rules_report_of wording rules = flat_map (rule_text wording) rules

-- a report that is being written has this text so far
abbrev pub HasSoFar : Report → Wording → List ℕ → Type 0
HasSoFar (report.Lines lines) wording text = (wording ≡ Numbered) × (lines ≡ text)
HasSoFar (report.Table table) wording text = (separator : ℕ) × (names : List (List ℕ)) × (wording ≡ Named separator names) × HasText table separator names text
