-- Where one kind of error that may come at words is help, each is: so the words say whether help comes.
use Rattle.std.proofs.Common.{◌≡◌, ◌∙◌, ◌&&◌, ◌||◌, inl, inr, not, ℕ, zero, suc, List, [], ◌∷◌, Bool, true, false, Option, Some, None, is_some, length, refl, sym, ap, arith}
use Rattle.std.proofs.lemmas.Grind.{common_steps}
use Rattle.std.specs.Prelude.{if◌then◌else◌, find, slice_get, ⊤}
use Rattle.std.specs.List.{list_all, list_any}
use Rattle.std.specs.Option.{option_map_or}
use Rattle.std.specs.Str.{chars}
use Rattle.clap.specs.Facts.{parser_of_value, unwrap_or_range}
use Rattle.clap.specs.Values.{refused_kind}
use Rattle.clap.specs.declared.builder.value_parser.ValueParser.{ValueParser}
use Rattle.clap.specs.ValueTests.{accepts}
use Rattle.clap.specs.Walk.{Held, Names as Labels, Row, Rule, Step, Text, Waiting, Walk}
use Rattle.clap.specs.Walk.{next, trailing, subcommand, value}
use Rattle.clap.specs.Walk.{action_of, answers_to, arg_by_id, arg_by_index, attached_value, has_row, is_empty, most_values, nothing_held, settled, subcommand_met, takes_values, values_or_missing, walk, walked, with_default}
use Rattle.clap.specs.Simple.{App, Shape, built, entered, label_of, names_of}
use Rattle.clap.specs.Kinds.{IsAmong, Kinds, or_else, range_kinds, request_kinds, value_kinds, values_kinds}
use Rattle.clap.specs.Faults.{action_fault, bundle_step_fault, count_fault, default_fault, defaults_fault, entered_fault, fault_of, flag_word_fault, flags_fault, level_fault, long_fault, option_fault, other_fault, positional_fault, react_fault, set_fault, settle_fault, short_fault, step_fault, stray_fault, turn_fault, use_fault, walk_fault, word_fault}
use Rattle.clap.specs.declared.builder.action.ArgAction.{ArgAction}
use Rattle.clap.specs.declared.error.kind.ErrorKind.{ErrorKind}
use Rattle.clap.specs.declared.error.kind.ErrorKind.TheVariants as kind
use Rattle.clap.proofs.OnLiterals.{clap_on_literals}
use Rattle.basket_plan.specs.Options.{command_line}
use Rattle.basket_plan.specs.Command.{plain_asks_help, is_help_kind}

-- the kinds are all of help, or none is
record IsUniform (kinds : Kinds) : Type 0 where
  same : list_any is_help_kind kinds ≡ true → list_all is_help_kind kinds ≡ true

one : (k : ErrorKind) → IsUniform (k ∷ [])
one k = grind (arith, common_steps)

either : (a b : Kinds) → IsUniform a → IsUniform b → IsUniform (or_else a b)
either h1 h2 h3 h4 = grind (arith, common_steps)

choice : (b : Bool) (x y : Kinds) → IsUniform x → IsUniform y → IsUniform (if b then x else y)
choice h1 h2 h3 h4 h5 = grind (arith, common_steps)

none : IsUniform []
none = record { same = λ _. refl }

-- ---- one argument

value_even : (b : Bool) (p : ValueParser) (text : Text) → IsUniform (value_kinds b p text)
value_even b p text = choice (accepts b p text) _ _ none (one (refused_kind p))

values_even : (b : Bool) (p : ValueParser) (values : List Text) → IsUniform (values_kinds b p values)
values_even b p [] = none
values_even b p (v ∷ vs) = either _ _ (value_even b p v) (values_even b p vs)

set_even : (again : Bool) (a : Rule) (values : List Text) (rows : List Row) → IsUniform (set_fault again a values rows)
set_even again a values rows = either _ _ (choice (has_row a.id rows && not again) _ _ (one kind.ArgumentConflict) none) (values_even a.ignore_case (parser_of_value a.parser) values)

count_even : (a : Rule) (values : List Text) (rows : List Row) → IsUniform (count_fault a values rows)
count_even h1 h2 h3 = grind (arith, common_steps, value_even, values_even)

request_even : (x : ArgAction) → IsUniform (request_kinds x)
request_even h1 = grind (arith, common_steps)

action_even : (x : ArgAction) (again : Bool) (a : Rule) (values : List Text) (rows : List Row) → IsUniform (action_fault x again a values rows)
action_even h1 h2 h3 h4 h5 = grind (arith, common_steps, set_even, values_even, count_even, one)

range_even : (least most n : ℕ) → IsUniform (range_kinds least most n)
range_even least most n = grind (arith, common_steps)

use_even : (again : Bool) (a : Rule) (values : List Text) (rows : List Row) → IsUniform (use_fault again a values rows)
use_even again a values rows = either _ _ (range_even (unwrap_or_range a.range).start_inclusive (most_values a) (length values)) (action_even (action_of a) again a (values_or_missing a values) rows)

default_even : (rows : List Row) (a : Rule) → IsUniform (default_fault rows a)
default_even rows a = choice (has_row a.id rows || is_empty a.defaults) _ _ none (either _ _ (request_even (action_of a)) (values_even a.ignore_case (parser_of_value a.parser) a.defaults))

defaults_even : (rows : List Row) (c : List Rule) → IsUniform (defaults_fault rows c)
unfolding defaults_fault
defaults_even rows [] = none
defaults_even rows (a ∷ rest) = either _ _ (default_even rows a) (defaults_even (with_default rows a) rest)

-- ---- the list of arguments

module _ (c : List Rule) (again : Bool) where
  settle_even : (h : Held) → IsUniform (settle_fault c again h)
  settle_even h = go h.pending
    where
      at : (o : Option Rule) (values : List Text) → IsUniform (option_map_or (λ a. use_fault again a values h.rows) o [])
      at None values = none
      at (Some a) values = use_even again a values h.rows

      go : (p : Option (Text × List Text)) → IsUniform (option_map_or (λ p. option_map_or (λ a. use_fault again a p.1 h.rows) (arg_by_id c p.0) []) p [])
      go None = none
      go (Some p) = at (arg_by_id c p.0) p.1

  react_even : (a : Rule) (values : List Text) (h : Held) → IsUniform (react_fault c again a values h)
  react_even a values h = either _ _ (settle_even h) (use_even again a values (settled c h).rows)

  option_even : (a : Rule) (v : Option Text) (h : Held) → IsUniform (option_fault c again a v h)
  option_even a (Some v) h = react_even a (v ∷ []) h
  option_even a None h = settle_even h

  long_even : (o : Option Rule) (v : Option Text) (h : Held) → IsUniform (long_fault c again o v h)
  long_even None v h = one kind.UnknownArgument
  long_even (Some a) v h = choice (takes_values a) _ _ (option_even a v h) (choice (is_some v) _ _ (one kind.TooManyValues) (react_even a [] h))

  module _ (k : ℕ) (ih : (flags : Text) (skip : ℕ) (h : Held) → IsUniform (flags_fault c again k flags skip h)) where
    short_even : (o : Option Rule) (rest : Text) (h : Held) → IsUniform (short_fault c again o rest h (flags_fault c again k rest 0))
    short_even None rest h = one kind.UnknownArgument
    short_even (Some a) rest h = grind (arith, common_steps, option_even a (attached_value rest) h, react_even a [] h)

    step_of_flags : (x : Option ℕ) (flags : Text) (skip : ℕ) (h : Held) → IsUniform (bundle_step_fault c again x flags skip h (flags_fault c again k))
    step_of_flags h1 h2 h3 h4 = grind (arith, common_steps, none, short_even)

  flags_even : (k : ℕ) (flags : Text) (skip : ℕ) (h : Held) → IsUniform (flags_fault c again k flags skip h)
  unfolding flags_fault
  flags_even zero flags skip h = none
  flags_even (suc k) flags skip h = step_of_flags k (flags_even k) (slice_get (chars flags) 0) flags skip h

  flag_word_even : (o : Option (Text × Option Text)) (word : Text) (h : Held) → IsUniform (flag_word_fault c again o word h)
  flag_word_even h1 h2 h3 = grind (arith, common_steps, long_even, none, flags_even)

  positional_even : (stray : Kinds) → IsUniform stray → (o : Option Rule) (h : Held) → IsUniform (option_map_or (λ a. positional_fault c again a h) o stray)
  positional_even h1 h2 h3 h4 = grind (arith, common_steps, choice, none, settle_even)

-- ---- a level, if `help` is no subcommand

stray_even : (s : Shape) → IsUniform (stray_fault s)
stray_even s = choice s.is_leaf _ _ (one kind.UnknownArgument) (record { same = λ e. e })

module _ (s : Shape) (disabled : s.disable_help_subcommand ≡ true) where
  other_even : (o : Option Text) (word : Text) (h : Held) → IsUniform (other_fault s o word h)
  other_even h1 h2 h3 = grind (arith, common_steps, none, choice, flag_word_even)

  word_even : (labels : Labels) (is_trailing : Bool) (waiting : Waiting) (word : Text) (h : Held) → IsUniform (word_fault s labels is_trailing waiting word h)
  word_even labels is_trailing waiting word h = choice is_trailing _ _ none (other_even (subcommand_met labels waiting word) word h)

  step_even : (position : ℕ) (h : Held) (step : Step) → IsUniform (step_fault s position h step)
  step_even position h (next waiting) = none
  step_even position h (trailing p) = none
  step_even position h (subcommand name) = none
  step_even position h value = positional_even s.rules s.args_override_self (stray_fault s) (stray_even s) (arg_by_index s.rules position) h

  turn_even : (labels : Labels) (w : Walk) (word : Text) → IsUniform (turn_fault s labels w word)
  turn_even labels w word = grind (arith, common_steps, choice, none, either, word_even, step_even)

  walk_even : (labels : Labels) (w : Walk) (words : List Text) → IsUniform (walk_fault s labels w words)
  unfolding walk_fault
  walk_even labels w [] = none
  walk_even labels w (word ∷ rest) = either _ _ (turn_even labels w word) (walk_even labels (walked s.rules labels w word) rest)

  level_even : (labels : Labels) (h : Held) (words : List Text) (has_subcommand : Bool) (below : Kinds) → IsUniform below
      → IsUniform (level_fault s labels h words has_subcommand below)
  level_even labels h words has_subcommand below p = grind (arith, common_steps, either, walk_even, settle_even, defaults_even, choice, one, none)

-- ---- the line

-- none of the commands has the subcommand `help`
abbrev HaveNoHelp : List Shape → Type 0
HaveNoHelp [] = ⊤
HaveNoHelp (s ∷ rest) = (s.disable_help_subcommand ≡ true) × HaveNoHelp rest

sub_even : (subs : List Shape) → HaveNoHelp subs → (p : Text × List Text)
    → IsUniform (option_map_or (λ s. level_fault s [] nothing_held p.1 false []) (find (λ s. answers_to p.0 (label_of s)) subs) [])
sub_even [] disabled p = none
sub_even (s ∷ rest) disabled p = grind (arith, common_steps, sub_even rest disabled.1 p, level_even s disabled.0 [] nothing_held p.1 false [] none, none)

entered_even : (a : App) → HaveNoHelp a.subs → (stop : Option (Text × List Text)) → IsUniform (entered_fault a stop)
entered_even h1 h2 h3 = grind (arith, common_steps, none, sub_even)

abbrev tree : App
tree = built command_line

line_even : (words : List Text) → IsUniform (fault_of command_line words)
unfolding clap_on_literals
line_even words =
    let stop = (walk tree.top.rules (names_of tree) nothing_held words).stopped in
    level_even tree.top refl (names_of tree) nothing_held words (is_some (entered tree stop)) (entered_fault tree stop) (entered_even tree (refl, (refl, (refl, (refl, (refl, (refl, tt)))))) stop)

any_among : (k : ErrorKind) (kinds : Kinds) → IsAmong k kinds → is_help_kind k ≡ true → list_any is_help_kind kinds ≡ true
any_among k [] among e = absurd among
any_among k (x ∷ xs) (inl same) e = rw (← same, e) refl
any_among k (x ∷ xs) (inr among) e = grind (arith, common_steps, any_among k xs among e)

all_among : (k : ErrorKind) (kinds : Kinds) → IsAmong k kinds → list_all is_help_kind kinds ≡ true → is_help_kind k ≡ true
all_among k [] among e = absurd among
all_among k (x ∷ xs) (inl same) e = go (is_help_kind x) (ap is_help_kind same) e
  where
    go : (b : Bool) → is_help_kind k ≡ b → (b && list_all is_help_kind xs) ≡ true → is_help_kind k ≡ true
    go true is h = is
    go false is h = is ∙ h
all_among k (x ∷ xs) (inr among) e = all_among k xs among (go (is_help_kind x) e)
  where
    go : (b : Bool) → (b && list_all is_help_kind xs) ≡ true → list_all is_help_kind xs ≡ true
    go true h = h
    go false h =
        let bad : false ≡ true = h in
        cc

-- the kind of an error that the words make says whether they ask for help
pub help_by_kind : (k : ErrorKind) (words : List Text) → IsAmong k (fault_of command_line words) → plain_asks_help words ≡ is_help_kind k
help_by_kind k words among = go (is_help_kind k) refl (list_any is_help_kind (fault_of command_line words)) refl
  where
    go : (b : Bool) → is_help_kind k ≡ b → (any : Bool) → list_any is_help_kind (fault_of command_line words) ≡ any → any ≡ b
    go true is true asks = refl
    go true is false asks = sym asks ∙ any_among k (fault_of command_line words) among is
    go false is true asks = sym (all_among k (fault_of command_line words) among ((line_even words).same asks)) ∙ is
    go false is false asks = refl
