-- Parts of baskets of names, counted apart and put together.
use Rattle.std.specs.Prelude.{◌≡◌, ◌≢◌, ◌≤◌, ℕ, Bool, IsTrue, List, [], Some, Ok, All, map}
use Rattle.std.specs.List.{Contains, flat_map}
use Rattle.basket_outcome.specs.declared.contents.Contents.TheVariants as contents
use Rattle.basket_outcome.specs.Outcome.{outcome, outcome_for}
use Rattle.basket_csv.specs.Counts.{named_counts_of}
use Rattle.basket_csv.specs.Csv.{all_names, baskets_in}
use Rattle.basket_names.specs.Names.{in_order}
use Rattle.basket_plan.specs.declared.layout.Form.TheVariants.{CsvCounts}
use Rattle.basket_plan.specs.Plan.{Question}
use Rattle.basket_read.specs.declared.counted_line.CountedLine.{CountedLine}
use Rattle.basket_sets.specs.declared.minimum.Minimum.TheVariants.{Share}
use Rattle.basket_sets.specs.declared.weighted.Weighted.{Weighted}
use Rattle.basket_sets.specs.Database.{MOST_WEIGHT}
use Rattle.basket_sets.specs.Frequent.{IsNonemptySet}
use Rattle.basket_sets.specs.Itemset.{IsRising}
use Rattle.basket_sets.specs.Support.{total_of}
use Rattle.basket_laws.specs.Outcomes.{in_form}
use Rattle.basket_laws.specs.Parts.{counts_of_parts, is_frequent_in_some, said_of, whole_of}

-- the records of all parts, one part after another
abbrev pub all_records : List (List (List (List ℕ))) → List (List (List ℕ))
all_records parts = flat_map (λ rows. rows) parts

-- the names of all records in the order of their first appearance
abbrev pub names_of_parts : Bool → List (List (List (List ℕ))) → List (List ℕ)
names_of_parts weighted parts = in_order (all_names weighted (all_records parts))

-- the baskets of each part, where these names are known
abbrev pub named_parts : Bool → List (List ℕ) → List (List (List (List ℕ))) → List (List Weighted)
named_parts weighted known parts = map (baskets_in weighted known) parts

-- records are cut into parts: where the names of all are known in the order of their first appearance, the baskets of the parts, one part after another, are those of all records
abbrev pub NamedPartsAreParts : Type 0
NamedPartsAreParts = (weighted : Bool) (parts : List (List (List (List ℕ))))
    → whole_of (named_parts weighted (names_of_parts weighted parts) parts) ≡ baskets_in weighted [] (all_records parts)

-- the question, asked of counts by names at a share
abbrev pub of_named_counts_at : Question → ℕ × ℕ → Question
of_named_counts_at question share = record question { layout = in_form CsvCounts question.layout; minimum = Share share }

-- where some bytes say, with these names first, what is counted over each part of sets that have each set which is frequent in some part, each question has the outcome that all records have
abbrev pub NamedPartsAnswerAsTheWhole : Type 0
NamedPartsAnswerAsTheWhole = (weighted : Bool) (parts : List (List (List (List ℕ)))) (share : ℕ × ℕ) (sets : List (List ℕ)) (lines : List CountedLine) (bytes : List ℕ) (question : Question)
    → parts ≢ [] → total_of (baskets_in weighted [] (all_records parts)) ≤ MOST_WEIGHT → All IsRising sets
    → ((set : List ℕ) → IsNonemptySet set → IsTrue (is_frequent_in_some (named_parts weighted (names_of_parts weighted parts) parts) (Share share) set) → Contains sets set)
    → map said_of lines ≡ counts_of_parts (named_parts weighted (names_of_parts weighted parts) parts) sets
    → named_counts_of question.layout.separator question.layout.header [] bytes ≡ Ok (lines, names_of_parts weighted parts)
    → outcome bytes (of_named_counts_at question share)
    ≡ outcome_for (contents.Baskets (baskets_in weighted [] (all_records parts)) (Some (names_of_parts weighted parts))) (of_named_counts_at question share)
