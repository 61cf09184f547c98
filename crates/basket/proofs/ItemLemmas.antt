-- The items of an input that are counted while it is read.
use Rattle.std.proofs.Common.{◌≡◌, ℕ, ◌+◌, Bool, List, [], ◌++◌, Option, Some, Result, Ok, Err, ap, ◌∙◌, arith}
use Rattle.std.proofs.lemmas.Grind.{common_steps}
use Rattle.std.specs.Prelude.{IfSome}
use Rattle.std.proofs.lemmas.Option.{IfSome_then}
use Rattle.mine_limit.specs.declared.fault.MineFault.{MineFault}
use Rattle.mine_limit.specs.declared.fault.MineFault.TheVariants.{Memory}
use Rattle.basket_csv.specs.Csv.{Named, baskets_of_csv}
use Rattle.basket_csv.specs.Read.{AreCountsNamed}
use Rattle.basket_plan.specs.declared.plan.Ask.TheVariants.{Items}
use Rattle.basket_plan.specs.declared.layout.Form.TheVariants.{Baskets}
use Rattle.basket_plan.specs.Plan.{Question}
use Rattle.basket_read.specs.declared.fault.ReadFault.{ReadFault}
use Rattle.basket_read.specs.declared.item_counts.ItemCounts.{ItemCounts}
use Rattle.basket_read.specs.Fault.{Reads}
use Rattle.basket_read.specs.ItemCounts.{AreCountsOf}
use Rattle.basket_report.specs.Report.{report_of}
use Rattle.basket_sets.proofs.theory.Support.{support-append}
use Rattle.basket_sets.specs.declared.weighted.Weighted.{Weighted}
use Rattle.basket_sets.specs.Frequent.{frequent_items_of}
use Rattle.basket_sets.specs.Support.{total_of}
use Rattle.basket_mining.specs.Greatest.{greatest_support}
use Rattle.basket_outcome.specs.declared.fault.RunFault.TheVariants.{Input}
use Rattle.basket.proofs.DoneLemmas.{HasGreatest}
use Rattle.basket.specs.Engine.{IsReadable, MakesReport, RefusesSets}
use Rattle.basket_outcome.specs.declared.contents.Contents.TheVariants as contents
use Rattle.basket_outcome.specs.Contents.{FailsIn, by_names, contents_in, wording_with}
use Rattle.basket_outcome.specs.Outcome.{report_of_baskets, of_mining, outcome, outcome_of}

-- ---- counts of two lists of baskets

pub totals_add : (front back baskets : List Weighted) → baskets ≡ front ++ back → total_of front + total_of back ≡ total_of baskets
totals_add front back baskets whole = let s = support-append front back [] in let e = ap total_of whole in omega arith

-- ---- what comes of a reader

-- the fault of a reader is that of the input
pub reader_refuses : {X Y : Type 0} (fits : X → Result Y ReadFault → Type 0) (defined : List ℕ → Result Y ReadFault) (fails : ReadFault → Type 0) (left after : Option (List ℕ)) (question : Question) (failed : Bool) (fault : ReadFault)
    → ((bytes : List ℕ) → defined bytes ≡ Err fault → outcome bytes question ≡ Err (Input fault)) → (fails fault → FailsIn question.layout.form left after fault)
    → Reads fits defined fails left failed (Err fault) → MakesReport question left after failed (Err (Input fault))
reader_refuses fits defined fails left after question failed fault same lost (exact, broken, only) = grind (arith, common_steps)

-- what mining comes to is no fault of the input
pub mined_is_readable : (mined : Result (List ℕ) MineFault) → IsReadable (of_mining mined)
mined_is_readable h1 = grind (arith, common_steps)

-- what the bytes say as CSV records that are baskets, where no names are known
abbrev pub csv_of : Question → List ℕ → Result Named ReadFault
csv_of question bytes = baskets_of_csv question.layout.separator question.layout.header question.layout.weighted [] bytes

pub csv_outcome : (question : Question) → question.layout.form ≡ Baskets → (bytes : List ℕ) → outcome bytes question ≡ outcome_of (by_names contents.Baskets (csv_of question bytes)) question
csv_outcome question form bytes = ap (λ f. outcome_of (contents_in f question.layout [] bytes) question) form

-- the items of the baskets of an input were counted, with these names: its outcome is the report of these baskets
abbrev pub IsCounted : Question → ItemCounts → Option (List (List ℕ)) → List ℕ → Type 0
IsCounted question counts names bytes = (baskets : List Weighted) × (outcome bytes question ≡ of_mining (report_of_baskets baskets names question)) × AreCountsOf counts baskets

-- those of CSV records that are baskets
pub csv_counted : (question : Question) (counts : ItemCounts) (names : List (List ℕ)) → question.layout.form ≡ Baskets → (bytes : List ℕ) → AreCountsNamed (counts, names) (csv_of question bytes)
    → IsCounted question counts (Some names) bytes
csv_counted question counts names form bytes (baskets, is, counted) = (baskets, csv_outcome question form bytes ∙ ap (λ r. outcome_of (by_names contents.Baskets r) question) is, counted)

-- the greatest support of an item of the baskets that were counted is that of what the input says
pub csv_greatest : (question : Question) (counts : ItemCounts) (names : List (List ℕ)) (greatest : ℕ) → question.layout.form ≡ Baskets
    → ((baskets : List Weighted) → AreCountsOf counts baskets → greatest ≡ greatest_support baskets) → (bytes : List ℕ) → AreCountsNamed (counts, names) (csv_of question bytes)
    → HasGreatest question greatest bytes
csv_greatest question counts names greatest form most bytes (baskets, is, counted) =
    (baskets, Some names, ap (λ f. contents_in f question.layout [] bytes) form ∙ ap (by_names contents.Baskets) is, most baskets counted)

-- memory may be out only if the input has no fault
pub memory_refuses : (left : Option (List ℕ)) (question : Question) (counts : ItemCounts) (names : Option (List (List ℕ)))
    → IfSome left (IsCounted question counts names) → RefusesSets left question Memory
memory_refuses left question counts names read = grind (arith, common_steps, IfSome_then, mined_is_readable)

-- the report of the counts is that of the input
pub counts_report : (left : Option (List ℕ)) (question : Question) (counts : ItemCounts) (names : Option (List (List ℕ))) (report : List ℕ) → question.ask ≡ Items
    → IfSome left (IsCounted question counts names)
    → ((baskets : List Weighted) → AreCountsOf counts baskets → report ≡ report_of (wording_with question.layout.separator names) (frequent_items_of baskets question.minimum))
    → IfSome left (λ bytes. outcome bytes question ≡ Ok report)
counts_report left question counts names report items read made = grind (arith, common_steps)
