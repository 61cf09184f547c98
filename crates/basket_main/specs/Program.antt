-- What a program does with the words of its command line.
use Rattle.std.specs.Prelude.{◌≡◌, ◌≢◌, ℕ, Bool, true, false, List, [], ◌∷◌, ◌++◌, Option, Some, None, Ok, Err, string_bytes, ⊤}
use Rattle.std.specs.Io.KnownBytes.{Appends, Keeps}
use Rattle.basket.specs.Count.{IsCountFault, WritesCounts, WritesCountsPrefix}
use Rattle.basket.specs.declared.done.Done.{Done}
use Rattle.basket.specs.Done.{IsDoneFor}
use Rattle.basket.specs.Engine.{IsReportFault, WritesPrefix, WritesReport}
use Rattle.basket_outcome.specs.declared.fault.RunFault.{RunFault}
use Rattle.basket_outcome.specs.declared.fault.RunFault.TheVariants.{Write}
use Rattle.basket_plan.specs.Command.{asks_help, invocation_of_words, is_help}
use Rattle.basket_plan.specs.declared.command.PlanFault.{PlanFault}
use Rattle.basket_plan.specs.declared.command.PlanFault.TheVariants.{Memory, Help}
use Rattle.basket_plan.specs.declared.invocation.Invocation.{Invocation}
use Rattle.basket_plan.specs.declared.invocation.Task.{Task}
use Rattle.basket_plan.specs.declared.invocation.Task.TheVariants.{Report, Count}
use Rattle.basket_report.specs.Bytes.{TakesPrefix}
use Rattle.std.specs.IoError.{error_kind}
use Rattle.basket_main.specs.Log.{Grows, Opening, Origin, openings_of}
use Rattle.basket_main.specs.declared.ending.Ending.{Ending}
use Rattle.basket_main.specs.declared.ending.Ending.TheVariants.{Refused, Unanswered, NotOpened, Ran}

-- ---- what is opened

-- the inputs of a task, in the order in which they are opened
abbrev pub origins_for : Task → Origin → List Origin
origins_for (Report plan) input = input ∷ []
origins_for (Count plan sets) input = input ∷ sets ∷ []

abbrev pub origins_of : Invocation → List Origin
origins_of invocation = origins_for invocation.task invocation.input

-- what the words ask for was run, and its inputs were opened; or these were opened up to one that was refused with this error; or the words ask for nothing that can be run, and nothing was to be opened
abbrev pub Follows : List (List ℕ) → Ending → Option (List Opening) → Option (List Opening) → Type 0
Follows words (Ran invocation ran) before after = (invocation_of_words words ≡ Some invocation) × Grows before after (openings_of (origins_of invocation))
Follows words (NotOpened origin error) before after =
    (invocation : Invocation) × (first others : List Origin)
    × (invocation_of_words words ≡ Some invocation) × (origins_of invocation ≡ first ++ origin ∷ others)
    × Grows before after (openings_of first ++ (origin, Some (error_kind error)) ∷ [])
Follows words (Refused fault) before after =
    (fault ≢ Memory → (invocation_of_words words ≡ None) × (asks_help words ≡ is_help fault)) × Grows before after []
Follows words (Unanswered text) before after = (invocation_of_words words ≡ None) × (asks_help words ≡ true) × Grows before after []

-- the program ends for this fault of the words
abbrev pub IsRefusal : PlanFault → Ending → Type 0
IsRefusal fault (Refused other) = other ≡ fault
IsRefusal fault (Unanswered text) = fault ≡ Help text
IsRefusal fault _ = ⊥

-- ---- what is written to standard output

-- the report of a task over inputs with these bytes, and a prefix of it
abbrev pub WritesAll : (Origin → Option (List ℕ)) → Task → Origin → Option (List ℕ) → Option (List ℕ) → Type 0
WritesAll bytes (Report plan) input before after = WritesReport (bytes input) plan.question before after
WritesAll bytes (Count plan sets) input before after = WritesCounts plan.layout (bytes sets) (bytes input) before after

abbrev pub WritesSome : (Origin → Option (List ℕ)) → Task → Origin → Option (List ℕ) → Option (List ℕ) → Type 0
WritesSome bytes (Report plan) input before after = WritesPrefix (bytes input) plan.question before after
WritesSome bytes (Count plan sets) input before after = WritesCountsPrefix plan.layout (bytes sets) (bytes input) before after

-- the text of help if that was asked for, or the report of what was run, then flushed; a prefix of these if the output failed, and all of it if only the flush failed; else nothing
abbrev pub Writes : (Origin → Option (List ℕ)) → Ending → Bool → Option (List ℕ) → Option (List ℕ) → Type 0
Writes bytes (Ran invocation (Ok x)) flushed before after = WritesAll bytes invocation.task invocation.input before after × (flushed ≡ true)
Writes bytes (Ran invocation (Err Write)) flushed before after =
    WritesSome bytes invocation.task invocation.input before after × (flushed ≡ true → WritesAll bytes invocation.task invocation.input before after)
Writes bytes (Refused (Help text)) flushed before after = Appends before after (string_bytes text) × (flushed ≡ true)
Writes bytes (Unanswered text) flushed before after = TakesPrefix before after (string_bytes text) × (flushed ≡ true → Appends before after (string_bytes text))
Writes bytes _ flushed before after = Keeps before after

-- nothing was asked of the output
abbrev pub is_silent : Ending → Bool
is_silent (Ran invocation (Ok x)) = false
is_silent (Ran invocation (Err Write)) = false
is_silent (Refused (Help text)) = false
is_silent (Unanswered text) = false
is_silent _ = true

-- ---- the ends of the inputs

-- the readers of a task are at their ends; `at_end` says so of a reader of the input, and `sets_at_end` of one of the sets
abbrev pub AreAtEnd : {S L : Type 0} → (S → Bool) → (L → Bool) → Task → Type 0
AreAtEnd {S} {L} at_end sets_at_end (Report plan) = (reader : S) × (at_end reader ≡ true)
AreAtEnd {S} {L} at_end sets_at_end (Count plan sets) = (lists : L) × (reader : S) × (sets_at_end lists ≡ true) × (at_end reader ≡ true)

-- what was run without a fault read all of its inputs
abbrev pub HasRead : {S L : Type 0} → (S → Bool) → (L → Bool) → Ending → Type 0
HasRead at_end sets_at_end (Ran invocation (Ok x)) = AreAtEnd at_end sets_at_end invocation.task
HasRead at_end sets_at_end _ = ⊤

-- ---- what a run comes to beside its report

-- what a task comes to: a report what its plan's miner does; by counts nothing is mined
abbrev pub IsTaskDone : (Origin → Option (List ℕ)) → Task → Origin → Done → Type 0
IsTaskDone bytes (Report plan) input done = IsDoneFor plan.miner plan.question (bytes input) done
IsTaskDone bytes (Count plan sets) input done = done ≡ record { work = None; greatest = None }

-- what was run without a fault comes to what its task does
abbrev pub HasDone : (Origin → Option (List ℕ)) → Ending → Type 0
HasDone bytes (Ran invocation (Ok done)) = IsTaskDone bytes invocation.task invocation.input done
HasDone bytes _ = ⊤

-- ---- the fault of a run

-- the fault of a task is the one of its outcome; `left` and `has_failed` say of a reader of the input what it has left and whether it failed, and `sets_failed` of one of the sets whether it failed
abbrev pub IsTaskFault : {S L : Type 0} → (S → Option (List ℕ)) → (S → Bool) → (L → Bool) → (Origin → Option (List ℕ)) → Task → Origin → RunFault → Type 0
IsTaskFault {S} {L} left has_failed sets_failed bytes (Report plan) input fault =
    (reader : S) × IsReportFault plan.question (bytes input) (left reader) (has_failed reader) fault
IsTaskFault {S} {L} left has_failed sets_failed bytes (Count plan sets) input fault =
    (lists : L) × (reader : S) × IsCountFault plan.layout (bytes sets) (sets_failed lists) (bytes input) (left reader) (has_failed reader) fault

-- what was run has its fault
abbrev pub HasFault : {S L : Type 0} → (S → Option (List ℕ)) → (S → Bool) → (L → Bool) → (Origin → Option (List ℕ)) → Ending → Type 0
HasFault left has_failed sets_failed bytes (Ran invocation (Err fault)) = IsTaskFault left has_failed sets_failed bytes invocation.task invocation.input fault
HasFault left has_failed sets_failed bytes _ = ⊤
