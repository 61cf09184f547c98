-- How a program ends: its status, and what it says on standard error.
use Rattle.std.specs.Prelude.{ℕ, Bool, true, false, List, [], ◌∷◌, Ok, Err, if◌then◌else◌}
use Rattle.std.specs.IoError.{error_kind}
use Rattle.std.specs.declared.io.ErrorKind.{ErrorKind}
use Rattle.std.specs.declared.io.ErrorKind.TheVariants.{FileTooLarge, OutOfMemory}
use Rattle.basket_outcome.specs.Status.{status_after}
use Rattle.basket_outcome.specs.declared.fault.RunFault.TheVariants.{Write}
use Rattle.basket_plan.specs.Status.{plan_status_of}
use Rattle.basket_plan.specs.declared.command.PlanFault.TheVariants.{Help}
use Rattle.basket_main.specs.declared.ending.Ending.{Ending}
use Rattle.basket_main.specs.declared.ending.Ending.TheVariants.{Refused, Unanswered, NotOpened, Ran}

-- the status if a file can't be opened: 6 if memory is out, 3 if it is longer than an input may be, else 4
abbrev pub status_after_opening : ErrorKind → ℕ
status_after_opening OutOfMemory = 6
status_after_opening FileTooLarge = 3
status_after_opening _ = 4

-- the status: 4 if the output failed before all of help was written, and 0 after a run without a fault
abbrev pub status_at : Ending → ℕ
status_at (Refused fault) = plan_status_of fault
status_at (Unanswered text) = 4
status_at (NotOpened origin error) = status_after_opening (error_kind error)
status_at (Ran invocation (Ok x)) = 0
status_at (Ran invocation (Err fault)) = status_after fault

-- whether there is something to say on standard error: not after help, nor after a run without a fault
abbrev pub is_explained : Ending → Bool
is_explained (Refused (Help text)) = false
is_explained (Refused _) = true
is_explained (Unanswered text) = false
is_explained (NotOpened origin error) = true
is_explained (Ran invocation (Ok x)) = false
is_explained (Ran invocation (Err fault)) = true

abbrev pub explanation_of : Ending → List Ending
explanation_of ending = if is_explained ending then ending ∷ [] else []

-- whether the output failed
abbrev pub is_cut_off : Ending → Bool
is_cut_off (Unanswered text) = true
is_cut_off (Ran invocation (Err Write)) = true
is_cut_off _ = false
