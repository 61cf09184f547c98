-- The options, the commands, and the whole line, as `clap` sees them.
use Rattle.std.specs.Prelude.{◌≡◌, List, [], ◌∷◌, ℕ, true, false, codes, fold, Some}
use Rattle.clap.specs.Words.{App, Rule, Text, new_app, new_rule, with_rule, with_subcommand}
use Rattle.clap.specs.Simple.{new_shape}
use Rattle.clap.specs.declared.builder.action.ArgAction.TheVariants as action
use Rattle.clap.specs.declared.builder.value_parser.ValueParser.TheVariants as parser
use Rattle.basket_plan.specs.Plan.{GREATEST_LIMIT}
use Rattle.basket_plan.specs.declared.command.Listed.{Listed}
use Rattle.basket_plan.specs.declared.options.Taken.{Taken}
use Rattle.basket_plan.specs.declared.options.Taken.TheVariants as taken
use Rattle.basket_plan.specs.declared.plan.TheConstants.{MOST_PIECES, MOST_WORKERS}

-- the option `--name`, which takes one value
abbrev pub option : Text → Rule
option name = record (new_rule name) { long = Some name; value_names = 1 }

-- an option that has to be given
abbrev pub required : Text → Rule
required name = record (option name) { required = true }

-- an option with a text, and which it is if it isn't given
abbrev pub choice : Text → Text → Rule
choice name default = record (option name) { defaults = default ∷ [] }

-- the flag `--name`, which takes no value
abbrev pub flag : Text → Rule
flag name = record (new_rule name) { long = Some name; action = Some action.SetTrue }

-- an option of a whole number from 1 to the greatest, and which it is if it isn't given
abbrev pub number : Text → ℕ → Text → Rule
number name most default = record (option name) { parser = Some (parser.Unsigned 1 most); defaults = default ∷ [] }

-- a value without the name of an option
abbrev pub positional : Text → Rule
positional name = record (new_rule name) { value_names = 1 }

-- the rule of what a command takes
abbrev pub rule_of_taken : Taken → Rule
rule_of_taken (taken.Required name value) = required name.now
rule_of_taken (taken.Choice name value default) = choice name.now default.now
rule_of_taken (taken.Flag name) = flag name.now
rule_of_taken (taken.Number name value most default) = number name.now most default.now
rule_of_taken (taken.Positional name value) = positional name.now

abbrev pub with_taken : App → Taken → App
with_taken app taken = with_rule app (rule_of_taken taken)

-- a command of the table, and the line with it
abbrev pub listed_app : Listed → App
listed_app listed = fold with_taken (fold with_taken (new_app listed.name.now) listed.shared.now) listed.own.now

abbrev pub with_listed : App → Listed → App
with_listed app listed = with_subcommand app (listed_app listed).top

-- a command that takes all that another one takes, and these after it
pub record TakesMore (old : App) (more : List Taken) (new : App) : Type 0 where
  pub shape : new ≡ fold with_taken old more

-- the options of all commands except `count`
abbrev pub options : List Rule
options =
    required (codes "min")
    ∷ choice (codes "form") (codes "fimi")
    ∷ choice (codes "sep") (codes "comma")
    ∷ flag (codes "header")
    ∷ flag (codes "weight")
    ∷ choice (codes "miner") (codes "apriori")
    ∷ number (codes "limit") GREATEST_LIMIT (codes "4294967295")
    ∷ number (codes "workers") MOST_WORKERS (codes "1")
    ∷ number (codes "pieces") MOST_PIECES (codes "16")
    ∷ positional (codes "file")
    ∷ []

-- the options of `count`
abbrev pub count_options : List Rule
count_options =
    required (codes "sets")
    ∷ choice (codes "form") (codes "fimi")
    ∷ choice (codes "sep") (codes "comma")
    ∷ flag (codes "header")
    ∷ flag (codes "weight")
    ∷ number (codes "workers") MOST_WORKERS (codes "1")
    ∷ number (codes "pieces") MOST_PIECES (codes "16")
    ∷ positional (codes "file")
    ∷ []

-- a command of a name with these options, and that of the rules, which has one more
abbrev pub command_app : Text → App
command_app name = record { top = record (new_shape name) { rules = options }; subs = [] }

abbrev pub rules_app : App
rules_app = with_rule (command_app (codes "rules")) (required (codes "conf"))

abbrev pub count_app : App
count_app = record { top = record (new_shape (codes "count")) { rules = count_options }; subs = [] }

-- the line without commands
abbrev pub bare_line : App
bare_line = record {
  top = record (new_shape (codes "basket")) { no_binary_name = true; has_version = true; subcommand_required = true; disable_help_subcommand = true };
  subs = [];
}

-- the line with all commands
abbrev pub command_line : App
command_line = record {
  top = record bare_line.top { is_leaf = false };
  subs = (command_app (codes "items")).top ∷ (command_app (codes "sets")).top ∷ (command_app (codes "closed")).top ∷ (command_app (codes "maximal")).top ∷ rules_app.top ∷ count_app.top ∷ [];
}
