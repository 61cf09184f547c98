-- What words ask for.
use Rattle.std.specs.Prelude.{List, [], ◌∷◌, ◌&&◌, nat_lt, length, Bool, true, false, codes, if◌then◌else◌, option_and_then, Option, Some, None}
use Rattle.std.specs.List.{list_any}
use Rattle.std.specs.Str.{bytes_eq}
use Rattle.clap.specs.Words.{Row, Text, subcommand_of}
use Rattle.clap.specs.Kinds.{Kinds}
use Rattle.clap.specs.Faults.{fault_of}
use Rattle.clap.specs.declared.error.kind.ErrorKind.{ErrorKind}
use Rattle.clap.specs.declared.error.kind.ErrorKind.TheVariants as kind
use Rattle.basket_plan.specs.Plan.{Counting, Planned}
use Rattle.basket_plan.specs.declared.command.PlanFault.{PlanFault}
use Rattle.basket_plan.specs.declared.command.PlanFault.TheVariants.{Memory, Usage, Help}
use Rattle.basket_plan.specs.declared.invocation.Invocation.{Invocation}
use Rattle.basket_plan.specs.declared.invocation.Task.TheVariants.{Report, Count}
use Rattle.basket_plan.specs.Options.{command_line}
use Rattle.basket_plan.specs.Values.{count_plan_of_rows, origin_in, plan_of_rows}

-- what is asked for if the sets and the input come from there: not both from standard input
abbrev pub counting_from : Counting → Option Text → Option Text → Option Invocation
counting_from plan None None = None
counting_from plan None (Some input) = Some (record { task = Count plan None; input = Some input })
counting_from plan (Some sets) input = Some (record { task = Count plan (Some sets); input = input })

-- what `count`, and what another command with the matches of its options asks for
abbrev pub count_invocation_of_rows : List Row → Option Invocation
count_invocation_of_rows rows =
    option_and_then (λ plan. counting_from plan (origin_in (codes "sets") rows) (origin_in (codes "file") rows)) (count_plan_of_rows rows)

abbrev pub reporting : Option Text → Planned → Option Invocation
reporting input plan = Some (record { task = Report plan; input = input })

abbrev pub report_of_rows : Text → List Row → Option Invocation
report_of_rows name rows = option_and_then (reporting (origin_in (codes "file") rows)) (plan_of_rows name rows)

abbrev pub invocation_of_rows : Text → List Row → Option Invocation
invocation_of_rows name rows = if bytes_eq name (codes "count") then count_invocation_of_rows rows else report_of_rows name rows

-- what the command that words enter asks for
abbrev pub invocation_of_command : Option (Text × List Row) → Option Invocation
invocation_of_command entered = option_and_then (λ found. invocation_of_rows found.0 found.1) entered

-- what is asked for, if no kind of error comes
abbrev pub if_taken : Kinds → Option Invocation → Option Invocation
if_taken [] invocation = invocation
if_taken (kind ∷ rest) invocation = None

-- what words ask for that `clap` is given
abbrev pub invocation_of_plain : List Text → Option Invocation
invocation_of_plain words = if_taken (fault_of command_line words) (invocation_of_command (subcommand_of command_line words))

-- `help sets` stands for `sets --help`, and `help help` for `help`
abbrev pub help_words : List Text → List Text
help_words [] = codes "--help" ∷ []
help_words (name ∷ rest) = if bytes_eq name (codes "help") then codes "--help" ∷ [] else name ∷ codes "--help" ∷ []

-- the words that `clap` is given, which knows no command `help`: with more than one word after it, that is a mistake
abbrev pub plain_words : List Text → List Text
plain_words [] = []
plain_words (first ∷ rest) = if bytes_eq first (codes "help") && nat_lt (length rest) 2 then help_words rest else first ∷ rest

-- what words ask for, the program's name not among them
abbrev pub invocation_of_words : List Text → Option Invocation
invocation_of_words words = invocation_of_plain (plain_words words)

-- ---- help

-- `clap` has a text that was asked for: help, or a version
abbrev pub is_help_kind : ErrorKind → Bool
is_help_kind kind.DisplayHelp = true
is_help_kind kind.DisplayVersion = true
is_help_kind _ = false

-- the words ask for help or the version
abbrev pub plain_asks_help : List Text → Bool
plain_asks_help words = list_any is_help_kind (fault_of command_line words)

abbrev pub asks_help : List Text → Bool
asks_help words = plain_asks_help (plain_words words)

-- the fault is help, or a version, that was asked for
abbrev pub is_help : PlanFault → Bool
is_help Memory = false
is_help (Usage text) = false
is_help (Help text) = true
