-- What the options' values say, as `clap` gives them, and the plan that they make.
use Rattle.std.proofs.Common.{◌≡◌, ◌∙◌, ◌<◌, ◌≤◌, ◌||◌, inl, inr, ℕ, List, [], ◌∷◌, Bool, true, false, option_map, Option, Some, None, refl, sym, subst, ap, ap₂, arith}
use Rattle.std.proofs.lemmas.Grind.{common_steps}
use Rattle.std.specs.Prelude.{fold, option_and_then, codes, if◌then◌else◌, unwrap_or}
use Rattle.std.specs.Borrow.{Bor}
use Rattle.std.specs.List.{list_any}
use Rattle.std.specs.Str.{bytes_eq}
use Rattle.std.specs.Str.Parse.{IsNumeral, digits_value, without_leading_plus}
use Rattle.std.proofs.lemmas.Slice.Eq.{bytes_eq-Decides}
use Rattle.clap.specs.Words.{App, Row, Text, first_of, first_value, is_simple, one_text, rows_of, subcommand_name_of, subcommand_of, subcommand_rows_of}
use Rattle.clap.specs.declared.parser.matches.ArgMatches.{ArgMatches}
use Rattle.clap.specs.Values.{kind_of}
use Rattle.clap.specs.Kinds.{HasKind, Kinds}
use Rattle.clap.specs.Faults.{fault_of, is_simple_and_free}
use Rattle.clap.specs.ValueTests.{is_unsigned_in}
use Rattle.clap.specs.declared.error.Error.{Error}
use Rattle.clap.specs.declared.error.kind.ErrorKind.TheVariants.{OutOfMemory}
use Rattle.clap.specs.declared.builder.value_parser.ValueParser.TheVariants as parser
use Rattle.clap.specs.declared.parser.matches.Found.{Found}
use Rattle.clap.proofs.OnLiterals.{clap_on_literals}
use Rattle.clap.proofs.ValueTestLemmas.{Accepts-accepts, accepts-Accepts}
use Rattle.clap.proofs.WalkLemmas.{first_value-rows, one_text-rows}
use Rattle.basket_plan.proofs.HelpLemmas.{help_by_kind}
use Rattle.basket_plan.specs.Options.{TakesMore, command_line, with_taken}
use Rattle.basket_plan.specs.Values.{flag_in, number_in, number_of}
use Rattle.basket_plan.specs.Command.{plain_asks_help, is_help_kind, invocation_of_command, invocation_of_rows, invocation_of_plain, if_taken}
use Rattle.basket_plan.specs.declared.options.Taken.{Taken}

-- ---- values

-- a value that `clap` gives, and one that it doesn't give, as read from the rows
module _ {A : Type 0} (read : Text → Option A) (f : Found) (id : Text) (value : Option (Bor Text)) (e : option_map (λ s. s.now) value ≡ first_value f id) where
  from_rows : option_and_then read (first_of id (rows_of f)) ≡ option_and_then read (option_map (λ s. s.now) value)
  from_rows = ap (option_and_then read) (sym (first_value-rows f id) ∙ sym e)

  pub read_none : value ≡ None → None ≡ option_and_then read (first_of id (rows_of f))
  read_none was = sym (from_rows ∙ ap (λ v. option_and_then read (option_map (λ s. s.now) v)) was)

  pub read_some : (text : Bor Text) → value ≡ Some text → read text.now ≡ option_and_then read (first_of id (rows_of f))
  read_some text was = sym (from_rows ∙ ap (λ v. option_and_then read (option_map (λ s. s.now) v)) was)

-- a text that isn't a name is not taken for it
pub skips : {A : Type 0} (text name : Text) (taken rest : A) → (text ≡ name → ⊥) → (if bytes_eq text name then taken else rest) ≡ rest
skips text name taken rest never = grind (arith, common_steps, bytes_eq-Decides)

-- the text is read as a `u32`
abbrev pub IsRead : Text → Type 0
IsRead text = IsNumeral 10 (without_leading_plus text) × (digits_value 10 (without_leading_plus text) < 4294967296)

module _ (most : ℕ) where
  number_said : (text : Text) → IsRead text → 1 ≤ digits_value 10 (without_leading_plus text) → digits_value 10 (without_leading_plus text) ≤ most
      → Some (digits_value 10 (without_leading_plus text)) ≡ number_of most text
  number_said text reads least greatest = let yes = Accepts-accepts false (parser.Unsigned 1 most) text (reads.0, omega (arith, reads.1), least, greatest) in grind (arith, common_steps)

  number_unsaid : most < 4294967296 → (text : Text)
      → (IsRead text → 1 ≤ digits_value 10 (without_leading_plus text) → digits_value 10 (without_leading_plus text) ≤ most → ⊥) → None ≡ number_of most text
  number_unsaid small text never = go (is_unsigned_in 1 most text) (λ e. let h = accepts-Accepts false (parser.Unsigned 1 most) text e in never (h.0, omega (arith, h.3, small)) h.2 h.3)
    where
      go : (b : Bool) → (b ≡ true → ⊥) → None ≡ (if b then Some (digits_value 10 (without_leading_plus text)) else None)
      go true h = absurd (h refl)
      go false h = refl

-- a flag
pub flag_some : (f : Found) (name : Text) (value : Option (Bor Text)) → option_map (λ s. s.now) value ≡ first_value f name → (text : Bor Text) → value ≡ Some text
    → bytes_eq text.now (codes "true") ≡ flag_in name (rows_of f)
flag_some f name value e text was = grind (arith, common_steps, first_value-rows)

pub flag_none : (f : Found) (name : Text) (value : Option (Bor Text)) → option_map (λ s. s.now) value ≡ first_value f name → value ≡ None → false ≡ flag_in name (rows_of f)
flag_none f name value e was = grind (arith, common_steps, first_value-rows)

module _ (f : Found) (name : Text) (most : ℕ) where
  number_rows : option_and_then (number_of most) (one_text f name) ≡ number_in name most (rows_of f)
  number_rows = ap (option_and_then (number_of most)) (one_text-rows f name)

  pub number_some : (v : ℕ) → ((text : Text) → one_text f name ≡ Some text → IsRead text × (v ≡ digits_value 10 (without_leading_plus text)))
      → (one_text f name ≡ None → ⊥) → 1 ≤ v → v ≤ most → Some v ≡ number_in name most (rows_of f)
  number_some v reads none least greatest = grind (arith, common_steps, number_rows, number_said)

  module _ (small : most < 4294967296) where
    pub number_out : (v : ℕ) → ((text : Text) → one_text f name ≡ Some text → IsRead text × (v ≡ digits_value 10 (without_leading_plus text)))
        → (1 ≤ v → v ≤ most → ⊥) → None ≡ number_in name most (rows_of f)
    number_out v reads out = grind (arith, common_steps, number_rows, number_unsaid)

    pub number_none : ((text : Text) → one_text f name ≡ Some text → IsRead text → ⊥) → None ≡ number_in name most (rows_of f)
    number_none never = grind (arith, common_steps, number_rows, number_unsaid)

-- the command of a name with its matches, as `clap` gives both, is the command that was entered
map_twice : {A B C : Type 0} (f : B → C) (g : A → B) (o : Option A) → option_map (λ a. f (g a)) o ≡ option_map f (option_map g o)
map_twice h1 h2 h3 = grind (arith, common_steps)

pub entered : (m : ArgMatches) (name : Text) (rows : List Row) → Some name ≡ subcommand_name_of m → Some rows ≡ option_map (λ p. p.1) (subcommand_rows_of m)
    → invocation_of_command (subcommand_rows_of m) ≡ invocation_of_rows name rows
entered m name rows named listed = go (subcommand_rows_of m) (named ∙ map_twice (λ p. p.0) _ _) listed
  where
    go : (o : Option (Text × List Row)) → Some name ≡ option_map (λ p. p.0) o → Some rows ≡ option_map (λ p. p.1) o → invocation_of_command o ≡ invocation_of_rows name rows
    go None n r = absurd cc
    go (Some p) n r = ap₂ invocation_of_rows (ap (λ o. unwrap_or o name) (sym n)) (ap (λ o. unwrap_or o rows) (sym r))

-- ---- the line

pub stays_local : (old new global : Bool) → new ≡ (old || global) → global ≡ false → old ≡ false → new ≡ false
stays_local old new global e g o = e ∙ ap₂ (λ a b. a || b) o g

-- what a command takes more than one that is known
pub taken_more : {old known new : App} {more : List Taken} → old ≡ known → TakesMore old more new → new ≡ fold with_taken known more
taken_more {old} {known} {new} {more} is takes = takes.shape ∙ ap (λ (app : App). fold with_taken app more) is

simple_line : is_simple_and_free command_line ≡ true
unfolding clap_on_literals
simple_line = refl

simple_app : is_simple command_line ≡ true
unfolding clap_on_literals
simple_app = refl

module _ (app : App) (is : app ≡ command_line) (words : List Text) where
  simple : is_simple_and_free app ≡ true
  simple = ap is_simple_and_free is ∙ simple_line

  same_faults : fault_of app words ≡ fault_of command_line words
  same_faults = ap (λ a. fault_of a words) is

  pub plan_taken : (entered : Option (Text × List Row)) → (is_simple_and_free app ≡ true → fault_of app words ≡ [])
      → (is_simple app ≡ true → entered ≡ subcommand_of app words) → invocation_of_plain words ≡ invocation_of_command entered
  plan_taken entered takes enters =
      let faults : fault_of command_line words ≡ [] = sym same_faults ∙ takes simple in
      let found : subcommand_of command_line words ≡ entered = ap (λ a. subcommand_of a words) (sym is) ∙ sym (enters (ap is_simple is ∙ simple_app)) in
      ap₂ (λ (kinds : Kinds) (e : Option (Text × List Row)). if_taken kinds (invocation_of_command e)) faults found

  pub plan_refused : (e : Error) → (is_simple_and_free app ≡ true → HasKind (fault_of app words) e) → (kind_of e ≡ OutOfMemory → ⊥) → invocation_of_plain words ≡ None
  plan_refused e fails has_memory = go (fault_of command_line words) (subst (λ (kinds : Kinds). HasKind kinds e) same_faults (fails simple))
    where
      go : (kinds : Kinds) → HasKind kinds e → if_taken kinds (invocation_of_command (subcommand_of command_line words)) ≡ None
      go [] (inl memory) = absurd (has_memory memory)
      go [] (inr among) = absurd among
      go (k ∷ ks) h = refl

  pub no_help : (is_simple_and_free app ≡ true → fault_of app words ≡ []) → plain_asks_help words ≡ false
  no_help takes = ap (list_any is_help_kind) (sym same_faults ∙ takes simple)

  pub help_refused : (e : Error) → (is_simple_and_free app ≡ true → HasKind (fault_of app words) e) → (kind_of e ≡ OutOfMemory → ⊥) → plain_asks_help words ≡ is_help_kind (kind_of e)
  help_refused e fails has_memory = grind (arith, common_steps, same_faults, simple, help_by_kind)
