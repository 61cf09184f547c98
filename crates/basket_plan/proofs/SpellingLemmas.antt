-- Each option asks for the same in one word as in two.
use Rattle.std.proofs.Common.{◌≡◌, List, [], ◌∷◌, ◌++◌, true, refl}
use Rattle.std.specs.Prelude.{All, codes, slice_index_or}
use Rattle.std.proofs.lemmas.List.Elements.{All-from_recursion}
use Rattle.clap.specs.Faults.{walk_fault}
use Rattle.clap.specs.Simple.{Shape}
use Rattle.clap.specs.Words.{Text}
use Rattle.clap.proofs.OnLiterals.{clap_on_literals}
use Rattle.basket_plan.proofs.EntryLemmas.{IsCommand, command_same, tree}
use Rattle.basket_plan.proofs.OutcomeLemmas.{Settles}
use Rattle.basket_plan.proofs.OptionLemmas.{IsName, IsOption, option_of, same_after, same_option}
use Rattle.basket_plan.specs.Command.{invocation_of_plain}
use Rattle.basket_plan.specs.Spelling.{IsSpelledFreely, option_word, stands_alone}

min_name : IsName (codes "min")
min_name = record { dashes = refl; long = refl; joined_dashes = λ _. refl; joined_long = λ _. refl }

form_name : IsName (codes "form")
form_name = record { dashes = refl; long = refl; joined_dashes = λ _. refl; joined_long = λ _. refl }

sep_name : IsName (codes "sep")
sep_name = record { dashes = refl; long = refl; joined_dashes = λ _. refl; joined_long = λ _. refl }

miner_name : IsName (codes "miner")
miner_name = record { dashes = refl; long = refl; joined_dashes = λ _. refl; joined_long = λ _. refl }

limit_name : IsName (codes "limit")
limit_name = record { dashes = refl; long = refl; joined_dashes = λ _. refl; joined_long = λ _. refl }

workers_name : IsName (codes "workers")
workers_name = record { dashes = refl; long = refl; joined_dashes = λ _. refl; joined_long = λ _. refl }

pieces_name : IsName (codes "pieces")
pieces_name = record { dashes = refl; long = refl; joined_dashes = λ _. refl; joined_long = λ _. refl }

conf_name : IsName (codes "conf")
conf_name = record { dashes = refl; long = refl; joined_dashes = λ _. refl; joined_long = λ _. refl }

sets_name : IsName (codes "sets")
sets_name = record { dashes = refl; long = refl; joined_dashes = λ _. refl; joined_long = λ _. refl }

-- the commands as `clap` builds them
abbrev sets_shape : Shape
sets_shape = slice_index_or tree.subs 1 tree.top

abbrev rules_shape : Shape
rules_shape = slice_index_or tree.subs 4 tree.top

abbrev count_shape : Shape
count_shape = slice_index_or tree.subs 5 tree.top

sets_command : IsCommand (codes "sets") sets_shape
unfolding clap_on_literals
sets_command = record { fault = refl; walk = refl; found = refl }

rules_command : IsCommand (codes "rules") rules_shape
unfolding clap_on_literals
rules_command = record { fault = refl; walk = refl; found = refl }

count_command : IsCommand (codes "count") count_shape
unfolding clap_on_literals
count_command = record { fault = refl; walk = refl; found = refl }

none_settle : (s : Shape) → Settles s []
unfolding walk_fault
none_settle s h = refl

-- after some words of a command an option comes to the same
abbrev IsSame : Text → List Text → Text → Type 0
IsSame command before name = (value : Text) → stands_alone value ≡ true
    → invocation_of_plain (command ∷ before ++ (codes "--" ++ name) ∷ value ∷ []) ≡ invocation_of_plain (command ∷ before ++ option_word name value ∷ [])

-- as the first one, and after another that has its value in its word
first_same : {command : Text} {s : Shape} → IsCommand command s → (name : Text) → IsOption s name → IsSame command [] name
first_same {command} {s} is name option value stands =
    command_same is (same_option s name option value stands [] (none_settle s))

later_same : {command : Text} {s : Shape} → IsCommand command s → (earlier given : Text) → IsOption s earlier → (name : Text) → IsOption s name
    → IsSame command (option_word earlier given ∷ []) name
later_same {command} {s} is earlier given before name option value stands =
    command_same is (same_after s earlier before given _ _ (same_option s name option value stands [] (none_settle s)))

sets_min : IsOption sets_shape (codes "min")
sets_min = option_of _ _ _ min_name refl refl refl

rules_min : IsOption rules_shape (codes "min")
rules_min = option_of _ _ _ min_name refl refl refl

count_sets : IsOption count_shape (codes "sets")
count_sets = option_of _ _ _ sets_name refl refl refl

pub minimum : IsSpelledFreely (codes "sets" ∷ []) (codes "min")
minimum = first_same sets_command _ sets_min

pub sets : IsSpelledFreely (codes "count" ∷ []) (codes "sets")
sets = first_same count_command _ count_sets

pub confidence : IsSpelledFreely (codes "rules" ∷ codes "--min=2" ∷ []) (codes "conf")
confidence = later_same rules_command _ (codes "2") rules_min _ (option_of _ _ _ conf_name refl refl refl)

report : (name : Text) → IsOption sets_shape name → IsSame (codes "sets") (codes "--min=2" ∷ []) name
report name option = later_same sets_command _ (codes "2") sets_min name option

count : (name : Text) → IsOption count_shape name → IsSame (codes "count") (codes "--sets=asked" ∷ []) name
count name option = later_same count_command _ (codes "asked") count_sets name option

abbrev report_names : List Text
report_names = codes "form" ∷ codes "sep" ∷ codes "miner" ∷ codes "limit" ∷ codes "workers" ∷ codes "pieces" ∷ []

abbrev count_names : List Text
count_names = codes "form" ∷ codes "sep" ∷ codes "workers" ∷ codes "pieces" ∷ []

pub reports : All (IsSpelledFreely (codes "sets" ∷ codes "--min=2" ∷ [])) report_names
reports = All-from_recursion (IsSpelledFreely (codes "sets" ∷ codes "--min=2" ∷ [])) report_names
    (report _ (option_of _ _ _ form_name refl refl refl), (report _ (option_of _ _ _ sep_name refl refl refl), (report _ (option_of _ _ _ miner_name refl refl refl), (report _ (option_of _ _ _ limit_name refl refl refl), (report _ (option_of _ _ _ workers_name refl refl refl), (report _ (option_of _ _ _ pieces_name refl refl refl), tt))))))

pub counts : All (IsSpelledFreely (codes "count" ∷ codes "--sets=asked" ∷ [])) count_names
counts = All-from_recursion (IsSpelledFreely (codes "count" ∷ codes "--sets=asked" ∷ [])) count_names
    (count _ (option_of _ _ _ form_name refl refl refl), (count _ (option_of _ _ _ sep_name refl refl refl), (count _ (option_of _ _ _ workers_name refl refl refl), (count _ (option_of _ _ _ pieces_name refl refl refl), tt))))
