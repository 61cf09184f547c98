-- What a run does to its reader and its writer.
use Rattle.std.specs.Prelude.{◌≡◌, ◌≢◌, ◌≤◌, ℕ, List, Bool, true, false, Option, IfSome, Result, Ok, Err, length, take}
use Rattle.std.specs.Io.KnownBytes.{Appends}
use Rattle.basket_read.specs.declared.fault.ReadFault.{ReadFault}
use Rattle.basket_read.specs.declared.fault.ReadFault.TheVariants.{Memory, Read}
use Rattle.mine_limit.specs.declared.fault.MineFault.{MineFault}
use Rattle.mine_limit.specs.declared.fault.MineFault.TheVariants as mine
use Rattle.basket_outcome.specs.declared.fault.RunFault.{RunFault}
use Rattle.basket_outcome.specs.declared.fault.RunFault.TheVariants.{Input, Sets, Uncounted, Mine, Write}
use Rattle.basket_outcome.specs.declared.prepared.PreparedReport.{PreparedReport}
use Rattle.basket_outcome.specs.Contents.{FailsIn}
use Rattle.basket_outcome.specs.Prepared.{prepared_text}
use Rattle.basket_outcome.specs.Outcome.{outcome}
use Rattle.basket_plan.specs.Plan.{Question}
use Rattle.basket.specs.declared.done.Done.{Done}

-- the writer took the report of what the reader had left, and nothing else
abbrev pub WritesReport : Option (List ℕ) → Question → Option (List ℕ) → Option (List ℕ) → Type 0
WritesReport left question before after = IfSome left (λ bytes. (text : List ℕ) × (outcome bytes question ≡ Ok text) × Appends before after text)

-- the writer took a prefix of that report, which may be all of it
abbrev pub WritesPrefix : Option (List ℕ) → Question → Option (List ℕ) → Option (List ℕ) → Type 0
WritesPrefix left question before after =
    IfSome left (λ bytes. (text : List ℕ) × (count : ℕ) × (outcome bytes question ≡ Ok text) × (count ≤ length text) × Appends before after (take count text))

-- except if memory is out, the outcome is that fault of the input
abbrev pub RefusesInput : Option (List ℕ) → Question → ReadFault → Type 0
RefusesInput left question fault = IfSome left (λ bytes. fault ≢ Memory → outcome bytes question ≡ Err (Input fault))

-- the outcome is no fault of the input
abbrev pub IsReadable : Result (List ℕ) RunFault → Type 0
IsReadable outcome = (fault : ReadFault) → outcome ≢ Err (Input fault)

-- the input has no fault, and except if memory is out, the outcome is that fault of mining
abbrev pub RefusesSets : Option (List ℕ) → Question → MineFault → Type 0
RefusesSets left question fault = IfSome left (λ bytes. IsReadable (outcome bytes question) × (fault ≢ mine.Memory → outcome bytes question ≡ Err (Mine fault)))

-- the fault is the one of the outcome, except if memory is out; if the reader failed, it is what the form of the input says of that
abbrev pub IsReportFault : Question → Option (List ℕ) → Option (List ℕ) → Bool → RunFault → Type 0
IsReportFault question left after failed (Input fault) =
    (failed ≡ false → RefusesInput left question fault) × (failed ≡ true → FailsIn question.layout.form left after fault) × (fault ≡ Read → failed ≡ true)
IsReportFault question left after failed (Mine fault) = (failed ≡ false) × RefusesSets left question fault
IsReportFault question left after failed Write = failed ≡ false
IsReportFault question left after failed (Sets fault) = ⊥
IsReportFault question left after failed (Uncounted nth) = ⊥

-- what comes of a reader: the report of what it had left, with what else the run comes to, or why there is none
abbrev pub MakesReport : Question → Option (List ℕ) → Option (List ℕ) → Bool → Result (PreparedReport × Done) RunFault → Type 0
MakesReport question left after failed (Ok made) = (failed ≡ false) × IfSome left (λ bytes. outcome bytes question ≡ Ok (prepared_text made.0))
MakesReport question left after failed (Err fault) = IsReportFault question left after failed fault × (fault ≢ Write)

-- the fault of what an input says is that of its outcome, except if memory is out
abbrev pub IsContentsFault : Result (List ℕ) RunFault → RunFault → Type 0
IsContentsFault outcome (Input fault) = (fault ≢ Memory → outcome ≡ Err (Input fault)) × (fault ≢ Read)
IsContentsFault outcome (Mine fault) = IsReadable outcome × (fault ≢ mine.Memory → outcome ≡ Err (Mine fault))
IsContentsFault outcome _ = ⊥

-- the outcome is that fault, except if memory is out, which is a fault of mining only if the input has none
abbrev pub IsOutcomeFault : Result (List ℕ) RunFault → RunFault → Type 0
IsOutcomeFault outcome (Input fault) = fault ≢ Memory → outcome ≡ Err (Input fault)
IsOutcomeFault outcome (Mine fault) = IsReadable outcome × (fault ≢ mine.Memory → outcome ≡ Err (Mine fault))
IsOutcomeFault outcome fault = outcome ≡ Err fault
