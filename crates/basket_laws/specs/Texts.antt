-- What is written of parts, read again.
use Rattle.std.specs.Prelude.{◌≡◌, ◌≤◌, ℕ, IsTrue, List, length, All, Ok, map}
use Rattle.std.specs.List.{Contains, flat_map}
use Rattle.basket_counts.specs.Counts.{counts_of}
use Rattle.basket_counts.specs.Laws.{IsWritten, lines_from}
use Rattle.basket_parts.specs.CombinedCounts.{frequent_in}
use Rattle.basket_read.specs.declared.counted_line.CountedLine.{CountedLine}
use Rattle.basket_read.specs.Fimi.{MOST_BYTES}
use Rattle.basket_report.specs.Report.{report_of}
use Rattle.basket_report.specs.Style.{Numbered}
use Rattle.basket_sets.specs.declared.counted.Counted.{Counted}
use Rattle.basket_sets.specs.declared.minimum.Minimum.TheVariants.{Share}
use Rattle.basket_sets.specs.declared.weighted.Weighted.{Weighted}
use Rattle.basket_sets.specs.Frequent.{IsNonemptySet, counted, frequent_of}
use Rattle.basket_sets.specs.Itemset.{IsRising}
use Rattle.basket_laws.specs.Parts.{counts_of_parts, is_frequent_in_some, whole_of}
use Rattle.mine_sets.specs.Asked.{asked_of}

-- the report of counted sets, in so few bytes as an input may have, says these sets with these counts, a line each
abbrev pub ReportsAreReadBack : Type 0
ReportsAreReadBack = (sets : List Counted) → All IsWritten sets → length (report_of Numbered sets) ≤ MOST_BYTES → counts_of (report_of Numbered sets) ≡ Ok (lines_from 1 sets)

-- what is written of some sets' counts in each part, part after part
abbrev pub texts_of_parts : List (List Weighted) → List (List ℕ) → List ℕ
texts_of_parts parts sets = flat_map (λ part. report_of Numbered (map (counted part) (asked_of sets))) parts

-- the texts of parts, concatenated, are an input whose counted sets list the frequent sets of all parts
abbrev pub TextsMakeTheWhole : Type 0
TextsMakeTheWhole = (parts : List (List Weighted)) (share : ℕ × ℕ) (sets : List (List ℕ))
    → All IsRising sets
    → ((set : List ℕ) → IsNonemptySet set → IsTrue (is_frequent_in_some parts (Share share) set) → Contains sets set)
    → All IsWritten (counts_of_parts parts sets) → length (texts_of_parts parts sets) ≤ MOST_BYTES
    → (lines : List CountedLine) × (counts_of (texts_of_parts parts sets) ≡ Ok lines)
    × (report_of Numbered (frequent_in lines (Share share)) ≡ report_of Numbered (frequent_of (whole_of parts) (Share share)))
