-- What an input says, by its layout, whatever is asked of it.
use Rattle.std.specs.Prelude.{ℕ, List, [], map, false, Option, Some, None, Result, Ok, if◌then◌else◌}
use Rattle.basket_counts.specs.Counts.{counts_of, sets_of_bytes}
use Rattle.basket_csv.specs.Counts.{named_counts_of}
use Rattle.basket_csv.specs.Csv.{baskets_of_csv, pairs_of_csv}
use Rattle.basket_parts.specs.CombinedCounts.{combined_of}
use Rattle.basket_plan.specs.declared.layout.Form.{Form}
use Rattle.basket_plan.specs.declared.layout.Form.TheVariants.{Fimi, Baskets, Single, Counts, CsvCounts}
use Rattle.basket_plan.specs.declared.layout.Layout.{Layout}
use Rattle.basket_plan.specs.Plan.{has_names}
use Rattle.basket_read.specs.declared.counted_line.CountedLine.{CountedLine}
use Rattle.basket_read.specs.declared.fault.ReadFault.{ReadFault}
use Rattle.basket_read.specs.Fault.{IsRead, result_and_then}
use Rattle.basket_read.specs.Fimi.{fimi_of}
use Rattle.basket_read.specs.Read.{FailsAfter}
use Rattle.basket_report.specs.Style.{Wording, Numbered, Named as ByNames}
use Rattle.basket_outcome.specs.declared.contents.Contents.{Contents}
use Rattle.basket_outcome.specs.declared.contents.Contents.TheVariants as contents

-- contents whose items are numbers, and whose items have names
abbrev pub by_numbers : {A : Type 0} → (A → Option (List (List ℕ)) → Contents) → Result A ReadFault → Result Contents ReadFault
by_numbers say read = result_and_then (λ a. Ok (say a None)) read

abbrev pub by_names : {A : Type 0} → (A → Option (List (List ℕ)) → Contents) → Result (A × List (List ℕ)) ReadFault → Result Contents ReadFault
by_names say read = result_and_then (λ both. Ok (say both.0 (Some both.1))) read

-- counted sets of names put together
abbrev pub with_names : {A : Type 0} → List (List ℕ) → Result A ReadFault → Result (A × List (List ℕ)) ReadFault
with_names names read = result_and_then (λ a. Ok (a, names)) read

abbrev pub named_combined_of : List CountedLine × List (List ℕ) → Result (List CountedLine × List (List ℕ)) ReadFault
named_combined_of both = with_names both.1 (combined_of both.0)

-- what the bytes say in a form, or their fault, where these names have numbers beforehand
abbrev pub contents_in : Form → Layout → List (List ℕ) → List ℕ → Result Contents ReadFault
contents_in Fimi layout known bytes = by_numbers contents.Baskets (fimi_of bytes)
contents_in Baskets layout known bytes = by_names contents.Baskets (baskets_of_csv layout.separator layout.header layout.weighted known bytes)
contents_in Single layout known bytes = by_names contents.Baskets (pairs_of_csv layout.separator layout.header known bytes)
contents_in Counts layout known bytes = by_numbers contents.Counts (result_and_then combined_of (counts_of bytes))
contents_in CsvCounts layout known bytes = by_names contents.Counts (result_and_then named_combined_of (named_counts_of layout.separator layout.header known bytes))

abbrev pub contents_of : Layout → List (List ℕ) → List ℕ → Result Contents ReadFault
contents_of layout known bytes = contents_in layout.form layout known bytes

-- the fault if the reader failed: in FIMI that of the bytes that it gave, if they are known and have one, `Read` if they have none, and any if they are not known; in the other forms `Read`
abbrev pub FailsIn : Form → Option (List ℕ) → Option (List ℕ) → ReadFault → Type 0
FailsIn Fimi left after = FailsAfter left after
FailsIn _ left after = IsRead

-- how a report writes items: as the input does
abbrev pub wording_with : ℕ → Option (List (List ℕ)) → Wording
wording_with separator None = Numbered
wording_with separator (Some names) = ByNames separator names

-- ---- the sets that are asked for

-- the sets among counted ones, with the names of their items
abbrev pub sets_without_counts : List CountedLine × List (List ℕ) → Result (List (List ℕ) × List (List ℕ)) ReadFault
sets_without_counts both = Ok (map (λ (line : CountedLine). line.set) both.0, both.1)

abbrev pub named_sets_of : ℕ → List ℕ → Result (List (List ℕ) × List (List ℕ)) ReadFault
named_sets_of separator bytes = result_and_then sets_without_counts (named_counts_of separator false [] bytes)

-- the sets that some bytes list, and the names of their items, of which numbers have none; or the fault of the bytes
abbrev pub asked_in : Layout → List ℕ → Result (List (List ℕ) × List (List ℕ)) ReadFault
asked_in layout bytes = if has_names layout.form then named_sets_of layout.separator bytes else with_names [] (sets_of_bytes bytes)
