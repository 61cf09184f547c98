-- The report of the rules of a list of frequent sets.
use Rattle.std.specs.Prelude.{◌≡◌, ◌++◌, ℕ, List, take}
use Rattle.std.specs.List.{flat_map}
use Rattle.basket_core.specs.Listing.{Listing}
use Rattle.basket_sets.specs.declared.minimum.Minimum.{Minimum}
use Rattle.basket_sets.specs.declared.weighted.Weighted.{Weighted}
use Rattle.basket_rules.specs.Listed.{IsListingOf}
use Rattle.basket_rules.specs.Consistency.{IsConsistent}
use Rattle.basket_rules.specs.Rules.{rules_among_with, rules_of}
use Rattle.basket_report.specs.Report.{rules_report_of}
use Rattle.basket_report.specs.Style.{Wording}

-- what the report of the rules of a listing is
abbrev pub ReportsRules : Wording → Listing → ℕ × ℕ → List ℕ → Type 0
ReportsRules wording listing confidence text =
    (baskets : List Weighted) (minimum : Minimum) → IsListingOf baskets minimum listing → text ≡ rules_report_of wording (rules_of baskets minimum confidence)

-- the report of the rules of the first sets as unions
abbrev pub first_rules : Wording → Listing → ℕ × ℕ → ℕ → List ℕ
first_rules wording listing confidence count = rules_report_of wording (flat_map (λ c. rules_among_with listing confidence c.set) (take count listing.sets))

-- the text is that of the rules with the sets from an index up to another as their unions
abbrev pub ReportsUnions : Wording → Listing → ℕ × ℕ → ℕ → ℕ → List ℕ → Type 0
ReportsUnions wording listing confidence from to text = IsConsistent listing.sets → first_rules wording listing confidence from ++ text ≡ first_rules wording listing confidence to
