use Rattle.std.proofs.Common.{◌≢◌, ◌++◌, [], ℕ, List, take}
use Rattle.basket_report.specs.Table.{HasFields, names_of}
use Rattle.basket_report.proofs.table.put_names.Given as goal

abbrev pub invariant-loop-item : goal.invariant-loop-item
invariant-loop-item l =
    (separator : ℕ) (text : List ℕ) (fields : List (List ℕ)) → HasFields l.initial.writer separator text fields → fields ≢ []
    → HasFields l.writer separator text (fields ++ names_of l.names (take l.item-index l.items))
