-- What `clap` makes of a command and its words, by what that command makes of the words.
use Rattle.std.proofs.Common.{◌≡◌, ◌∙◌, List, [], ◌∷◌, false, Some, is_some, option_map, sym, ap, ap₂}
use Rattle.std.specs.Prelude.{find, fold}
use Rattle.std.specs.Option.{option_map_or}
use Rattle.clap.specs.Kinds.{Kinds, or_else}
use Rattle.clap.specs.Faults.{check_fault, defaults_fault, entered_fault, fault_of, level_fault, settle_fault, turn_fault, walk_fault}
use Rattle.clap.specs.Simple.{App, Shape, built, entered, label_of, names_of, rows_at, subcommand_of}
use Rattle.clap.specs.Walk.{Text, Walk, answers_to, finished, nothing_held, settled, walk_from, walked}
use Rattle.clap.proofs.FaultLemmas.{stopped_fault}
use Rattle.clap.proofs.OnLiterals.{clap_on_literals}
use Rattle.clap.proofs.WalkLemmas.{walk_stopped}
use Rattle.basket_plan.proofs.OptionLemmas.{Same}
use Rattle.basket_plan.proofs.OutcomeLemmas.{Outcome, outcome}
use Rattle.basket_plan.specs.Options.{command_line}
use Rattle.basket_plan.specs.Command.{invocation_of_command, invocation_of_plain, if_taken}

abbrev pub tree : App
tree = built command_line

-- the walk after the name of a command
abbrev pub stopped_at : Text → List Text → Walk
stopped_at name words = record (walk_from nothing_held) { stopped = Some (name, words) }

-- a command of a name
pub record IsCommand (name : Text) (s : Shape) : Type 0 where
  pub fault : turn_fault tree.top (names_of tree) (walk_from nothing_held) name ≡ []
  pub walk : walked tree.top.rules (names_of tree) (walk_from nothing_held) name ≡ stopped_at name []
  pub found : find (λ s. answers_to name (label_of s)) tree.subs ≡ Some s

-- the kinds of error of the line, by those of the walk over its words and by its end
abbrev line_fault : Kinds → Walk → Kinds
line_fault kinds w =
    or_else kinds
    (or_else (entered_fault tree w.stopped)
    (or_else (settle_fault tree.top.rules tree.top.args_override_self w.held)
    (or_else (defaults_fault (settled tree.top.rules w.held).rows tree.top.rules)
    (check_fault tree.top (finished tree.top.rules w.held) (is_some (entered tree w.stopped))))))

module _ (name : Text) (s : Shape) (is : IsCommand name s) (words : List Text) where
  walk_is : fold (walked tree.top.rules (names_of tree)) (walk_from nothing_held) (name ∷ words) ≡ stopped_at name words
  walk_is = ap (λ (w : Walk). fold (walked tree.top.rules (names_of tree)) w words) is.walk ∙ sym (walk_stopped tree.top.rules (names_of tree) (walk_from nothing_held) name [] words)

  pub command_fault : fault_of command_line (name ∷ words) ≡ or_else (outcome s (walk_from nothing_held) words).0 []
  unfolding clap_on_literals
  command_fault =
      (λ i. line_fault (or_else (is.fault i) (walk_fault tree.top (names_of tree) (is.walk i) words)) (walk_is i))
      ∙ (λ i. line_fault (stopped_fault tree.top (names_of tree) (walk_from nothing_held) (name, []) words i) (stopped_at name words))
      ∙ (λ i. or_else (option_map_or (λ s. level_fault s [] nothing_held words false []) (is.found i) [])
      (check_fault tree.top [] (is_some (option_map (λ s. rows_at s words) (is.found i)))))

  pub command_entered : subcommand_of command_line (name ∷ words) ≡ Some (s.name, (outcome s (walk_from nothing_held) words).1)
  unfolding clap_on_literals
  command_entered = (λ i. entered tree (walk_is i).stopped) ∙ (λ i. option_map (λ s. rows_at s words) (is.found i))

-- words that come to the same for the command ask for the same
pub command_same : {name : Text} {s : Shape} {mixed joined : List Text} → IsCommand name s → Same s mixed joined → invocation_of_plain (name ∷ mixed) ≡ invocation_of_plain (name ∷ joined)
command_same {name} {s} {mixed} {joined} is equal =
    ap₂ if_taken
    (command_fault name s is mixed ∙ ap (λ (o : Outcome). or_else o.0 []) (equal.same nothing_held) ∙ sym (command_fault name s is joined))
    (ap invocation_of_command (command_entered name s is mixed ∙ ap (λ (o : Outcome). Some (s.name, o.1)) (equal.same nothing_held) ∙ sym (command_entered name s is joined)))
