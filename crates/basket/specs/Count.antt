-- The counts of given sets over an input.
use Rattle.std.specs.Prelude.{◌≡◌, ◌≢◌, ◌≤◌, ◌+◌, ℕ, Bool, true, false, List, [], ◌∷◌, Option, Some, None, IfSome, Result, Ok, Err, length, map, take, if◌then◌else◌}
use Rattle.std.specs.Io.KnownBytes.{Appends}
use Rattle.mine_limit.specs.declared.fault.MineFault.TheVariants as mine
use Rattle.basket_parts.specs.CombinedCounts.{count_in, has_set}
use Rattle.basket_plan.specs.declared.layout.Layout.{Layout}
use Rattle.basket_read.specs.declared.counted_line.CountedLine.{CountedLine}
use Rattle.basket_read.specs.declared.fault.ReadFault.{ReadFault}
use Rattle.basket_read.specs.declared.fault.ReadFault.TheVariants.{Memory, Read}
use Rattle.basket_report.specs.Report.{report_of}
use Rattle.basket_sets.specs.declared.counted.Counted.{Counted}
use Rattle.basket_sets.specs.Frequent.{counted}
use Rattle.basket_outcome.specs.declared.contents.Contents.{Contents}
use Rattle.basket_outcome.specs.declared.contents.Contents.TheVariants as contents
use Rattle.basket_outcome.specs.declared.fault.RunFault.{RunFault}
use Rattle.basket_outcome.specs.declared.fault.RunFault.TheVariants.{Input, Sets, Uncounted, Mine, Write}
use Rattle.basket_outcome.specs.declared.prepared.PreparedReport.{PreparedReport}
use Rattle.basket_outcome.specs.Contents.{FailsIn, asked_in, contents_of, wording_with}
use Rattle.basket_outcome.specs.Prepared.{prepared_text}
use Rattle.mine_sets.specs.Asked.{asked_of}

-- ---- what is written

-- the set with the sum of its counts in a counted input
abbrev pub counted_in : List CountedLine → List ℕ → Counted
counted_in lines set = record { set = set; count = count_in lines set }

-- the place of the first of some sets that a counted input doesn't have, where the first of them has this place
abbrev pub first_uncounted : List CountedLine → ℕ → List (List ℕ) → Option ℕ
first_uncounted lines place [] = None
first_uncounted lines place (set ∷ sets) = if has_set lines set then first_uncounted lines (place + 1) sets else Some place

-- sets with their counts, unless one has none
abbrev pub unless_uncounted : Option ℕ → List Counted → Result (List Counted) RunFault
unless_uncounted (Some nth) sets = Err (Uncounted nth)
unless_uncounted None sets = Ok sets

abbrev pub counts_over : List CountedLine → List (List ℕ) → Result (List Counted) RunFault
counts_over lines sets = unless_uncounted (first_uncounted lines 0 sets) (map (counted_in lines) sets)

-- the text of sets with their counts, or why there are none
abbrev pub text_of_counts : Layout → Option (List (List ℕ)) → Result (List Counted) RunFault → Result (List ℕ) RunFault
text_of_counts layout names (Ok sets) = Ok (report_of (wording_with layout.separator names) sets)
text_of_counts layout names (Err fault) = Err fault

-- the text of the counts of sets over what an input says: their supports in its baskets, or the sums of their counts
abbrev pub counts_in : Layout → List (List ℕ) → Contents → Result (List ℕ) RunFault
counts_in layout sets (contents.Baskets baskets names) = text_of_counts layout names (Ok (map (counted baskets) sets))
counts_in layout sets (contents.Counts lines names) = text_of_counts layout names (counts_over lines sets)

-- the text of the counts of sets over an input that was read, or the input's fault
abbrev pub of_contents : Layout → List (List ℕ) → Result Contents ReadFault → Result (List ℕ) RunFault
of_contents layout sets (Ok contents) = counts_in layout sets contents
of_contents layout sets (Err fault) = Err (Input fault)

-- the text of the counts of sets that were read, or their fault: the names of their items have their numbers in the input too
abbrev pub of_asked : Layout → List ℕ → Result (List (List ℕ) × List (List ℕ)) ReadFault → Result (List ℕ) RunFault
of_asked layout bytes (Ok asked) = of_contents layout (asked_of asked.0) (contents_of layout asked.1 bytes)
of_asked layout bytes (Err fault) = Err (Sets fault)

-- the outcome of counting the sets that some bytes list over an input: the empty set first, then the others in their order, each once, or a fault
abbrev pub count_outcome : Layout → List ℕ → List ℕ → Result (List ℕ) RunFault
count_outcome layout asked bytes = of_asked layout bytes (asked_in layout asked)

-- ---- what a run does to its readers and its writer

-- what holds of the bytes that both readers had left, where they tell them
abbrev pub OfBoth : Option (List ℕ) → Option (List ℕ) → (List ℕ → List ℕ → Type 0) → Type 0
OfBoth asked left holds = IfSome asked (λ sets. IfSome left (holds sets))

-- the writer took the counts, and nothing else
abbrev pub WritesCounts : Layout → Option (List ℕ) → Option (List ℕ) → Option (List ℕ) → Option (List ℕ) → Type 0
WritesCounts layout asked left before after = OfBoth asked left (λ sets bytes. (text : List ℕ) × (count_outcome layout sets bytes ≡ Ok text) × Appends before after text)

-- the writer took a prefix of them, which may be all of it
abbrev pub WritesCountsPrefix : Layout → Option (List ℕ) → Option (List ℕ) → Option (List ℕ) → Option (List ℕ) → Type 0
WritesCountsPrefix layout asked left before after =
    OfBoth asked left (λ sets bytes. (text : List ℕ) × (count : ℕ) × (count_outcome layout sets bytes ≡ Ok text) × (count ≤ length text) × Appends before after (take count text))

-- the bytes of the sets have no fault, if they are known
abbrev pub AreReadableSets : Layout → Option (List ℕ) → Type 0
AreReadableSets layout asked = IfSome asked (λ bytes. (fault : ReadFault) → asked_in layout bytes ≢ Err fault)

-- the outcome is no fault of the bytes of the sets or of the input
abbrev pub AreReadable : Result (List ℕ) RunFault → Type 0
AreReadable outcome = (fault : ReadFault) → (outcome ≢ Err (Sets fault)) × (outcome ≢ Err (Input fault))

-- the fault is the one of the outcome, except if memory is out; if a reader failed, it is what the form of what it reads says of that. The input is read only if the sets have no fault
abbrev pub IsCountFault : Layout → Option (List ℕ) → Bool → Option (List ℕ) → Option (List ℕ) → Bool → RunFault → Type 0
IsCountFault layout asked asked_failed left after failed (Sets fault) =
    (asked_failed ≡ false → OfBoth asked left (λ sets bytes. fault ≢ Memory → count_outcome layout sets bytes ≡ Err (Sets fault)))
    × (asked_failed ≡ true → fault ≡ Read) × (fault ≡ Read → asked_failed ≡ true) × (failed ≡ false)
IsCountFault layout asked asked_failed left after failed (Input fault) =
    (failed ≡ false → OfBoth asked left (λ sets bytes. fault ≢ Memory → count_outcome layout sets bytes ≡ Err (Input fault)))
    × (failed ≡ true → FailsIn layout.form left after fault) × (fault ≡ Read → failed ≡ true) × (asked_failed ≡ false)
    × AreReadableSets layout asked
IsCountFault layout asked asked_failed left after failed (Uncounted nth) =
    OfBoth asked left (λ sets bytes. count_outcome layout sets bytes ≡ Err (Uncounted nth)) × (asked_failed ≡ false) × (failed ≡ false)
IsCountFault layout asked asked_failed left after failed (Mine fault) =
    (fault ≡ mine.Memory) × (asked_failed ≡ false) × (failed ≡ false) × OfBoth asked left (λ sets bytes. AreReadable (count_outcome layout sets bytes))
IsCountFault layout asked asked_failed left after failed Write = (asked_failed ≡ false) × (failed ≡ false)

-- what comes of the readers: the counts, or why there are none
abbrev pub MakesCounts : Layout → Option (List ℕ) → Bool → Option (List ℕ) → Option (List ℕ) → Bool → Result PreparedReport RunFault → Type 0
MakesCounts layout asked asked_failed left after failed (Ok made) =
    OfBoth asked left (λ sets bytes. count_outcome layout sets bytes ≡ Ok (prepared_text made)) × (asked_failed ≡ false) × (failed ≡ false)
MakesCounts layout asked asked_failed left after failed (Err fault) = IsCountFault layout asked asked_failed left after failed fault × (fault ≢ Write)

-- why there are no counts of sets over what an input says: one has none, or it runs out of memory
abbrev pub IsCountsFault : Result (List ℕ) RunFault → RunFault → Type 0
IsCountsFault answer (Uncounted nth) = answer ≡ Err (Uncounted nth)
IsCountsFault answer (Mine fault) = fault ≡ mine.Memory
IsCountsFault answer _ = ⊥

-- why some sets have no sums in a counted input: one has none, or it runs out of memory
abbrev pub IsSumsFault : List CountedLine → List (List ℕ) → RunFault → Type 0
IsSumsFault lines sets (Uncounted nth) = counts_over lines sets ≡ Err (Uncounted nth)
IsSumsFault lines sets (Mine fault) = fault ≡ mine.Memory
IsSumsFault lines sets _ = ⊥
