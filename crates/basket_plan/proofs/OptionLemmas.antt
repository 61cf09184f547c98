-- To `clap` an option means the same in one word as in two.
use Rattle.std.proofs.Common.{◌≡◌, ◌∙◌, ℕ, List, [], ◌∷◌, ◌++◌, true, false, not, Some, None, refl, sym, ap}
use Rattle.std.specs.Prelude.{◌==◌, codes, if◌then◌else◌, nat_lt}
use Rattle.std.specs.Option.{option_map_or}
use Rattle.std.specs.Str.{bytes_eq}
use Rattle.std.proofs.lemmas.Slice.Eq.{bytes_eq-Decides}
use Rattle.clap.specs.Kinds.{or_else}
use Rattle.clap.specs.Lexer.{long_of}
use Rattle.clap.specs.Faults.{bundle_fault, flag_word_fault, long_fault, option_fault, react_fault, step_fault, use_fault}
use Rattle.clap.specs.Simple.{Shape}
use Rattle.clap.specs.declared.error.kind.ErrorKind.TheVariants.{TooManyValues}
use Rattle.clap.specs.Walk.{Held, Rule, Text, Walk, after_flag, after_step, arg_by_id, arg_by_long, flag_met, idle, long_met, long_or_other, most_values, next, option, option_met, reacted, settled, short_or_plain, takes_values, trailing, used, used_by_id, walk_from, walked, word_met}
use Rattle.clap.specs.Walk.{option_word as value_met}
use Rattle.basket_plan.proofs.OutcomeLemmas.{Leads, Settles, Uses, led, or_else-none, outcome, preceded, preceded-twice, settles-first, settling}
use Rattle.basket_plan.proofs.WordLemmas.{IsWord, is_word}
use Rattle.basket_plan.specs.Spelling.{option_word, stands_alone}

-- a name that is the same text with and without a value
pub record IsName (name : Text) : Type 0 where
  pub dashes : bytes_eq (codes "--" ++ name) (45 ∷ 45 ∷ []) ≡ false
  pub long : long_of (codes "--" ++ name) ≡ Some (name, None)
  pub joined_dashes : (text : Text) → bytes_eq (option_word name text) (45 ∷ 45 ∷ []) ≡ false
  pub joined_long : (text : Text) → long_of (option_word name text) ≡ Some (name, Some text)

module _ (s : Shape) where
  -- an option of one value, by its name
  pub record IsOption (name : Text) : Type 0 where
    pub rule : Rule
    pub by_name : arg_by_long s.rules name ≡ Some rule
    pub by_id : arg_by_id s.rules rule.id ≡ Some rule
    pub most : most_values rule ≡ 1
    pub is_name : IsName name

  pub option_of : (name : Text) (rule : Rule) → IsName name → arg_by_long s.rules name ≡ Some rule → arg_by_id s.rules rule.id ≡ Some rule → most_values rule ≡ 1 → IsOption name
  option_of name rule is_name by_name by_id most = record { rule = rule; by_name = by_name; by_id = by_id; most = most; is_name = is_name }

  module _ (name : Text) (o : IsOption name) (text : Text) (h : Held) where
    takes : takes_values o.rule ≡ true
    takes = ap (λ (n : ℕ). not (n == 0)) o.most

    joined_met : word_met s.rules [] false idle 1 (option_word name text) h ≡ (reacted s.rules o.rule (text ∷ []) h, next idle)
    joined_met =
        (λ i. if o.is_name.joined_dashes text i then (h, trailing 1) else long_or_other s.rules idle (option_word name text) (o.is_name.joined_long text i) h)
        ∙ (λ i. let m = long_met s.rules (o.by_name i) (Some text) h in after_flag s.rules idle (option_word name text) m.0 m.1)
        ∙ (λ i. let m = if takes i then option_met s.rules o.rule (Some text) h else flag_met s.rules o.rule (Some text) h in after_flag s.rules idle (option_word name text) m.0 m.1)

    joined_leads : Leads s (walk_from h) (option_word name text) (or_else (settling s h) (use_fault s.args_override_self o.rule (text ∷ []) (settled s.rules h).rows)) (walk_from (reacted s.rules o.rule (text ∷ []) h))
    unfolding walked
    joined_leads = record {
      fault =
          (λ i. or_else (if o.is_name.joined_dashes text i then [] else flag_word_fault s.rules s.args_override_self (o.is_name.joined_long text i) (option_word name text) h) (step_fault s 1 (joined_met i).0 (joined_met i).1))
          ∙ (λ i. or_else (long_fault s.rules s.args_override_self (o.by_name i) (Some text) h) [])
          ∙ (λ i. or_else (if takes i then option_fault s.rules s.args_override_self o.rule (Some text) h else TooManyValues ∷ []) [])
          ∙ or_else-none _;
      walk = λ i. after_step s.rules (option_word name text) (walk_from h) (joined_met i).0 (joined_met i).1;
    }

    -- what is held after the name alone, and after the value
    abbrev named : Held
    named = record (settled s.rules h) { pending = Some (o.rule.id, []) }

    abbrev valued : Held
    valued = record (settled s.rules h) { pending = Some (o.rule.id, text ∷ []) }

    abbrev awaiting : Walk
    awaiting = record (walk_from named) { waiting = option o.rule.id }

    name_met : word_met s.rules [] false idle 1 (codes "--" ++ name) h ≡ (named, next (option o.rule.id))
    name_met =
        (λ i. if o.is_name.dashes i then (h, trailing 1) else long_or_other s.rules idle (codes "--" ++ name) (o.is_name.long i) h)
        ∙ (λ i. let m = long_met s.rules (o.by_name i) None h in after_flag s.rules idle (codes "--" ++ name) m.0 m.1)
        ∙ (λ i. let m = if takes i then option_met s.rules o.rule None h else flag_met s.rules o.rule None h in after_flag s.rules idle (codes "--" ++ name) m.0 m.1)

    name_leads : Leads s (walk_from h) (codes "--" ++ name) (settling s h) awaiting
    unfolding walked
    name_leads = record {
      fault =
          (λ i. or_else (if o.is_name.dashes i then [] else flag_word_fault s.rules s.args_override_self (o.is_name.long i) (codes "--" ++ name) h) (step_fault s 1 (name_met i).0 (name_met i).1))
          ∙ (λ i. or_else (long_fault s.rules s.args_override_self (o.by_name i) None h) [])
          ∙ (λ i. or_else (if takes i then option_fault s.rules s.args_override_self o.rule None h else react_fault s.rules s.args_override_self o.rule [] h) [])
          ∙ or_else-none _;
      walk = λ i. after_step s.rules (codes "--" ++ name) (walk_from h) (name_met i).0 (name_met i).1;
    }

    module _ (word : IsWord text) where
      same_id : bytes_eq o.rule.id o.rule.id ≡ true
      same_id = (bytes_eq-Decides o.rule.id o.rule.id).1 refl

      value_word_met : word_met s.rules [] false (option o.rule.id) 1 text named ≡ (valued, next idle)
      value_word_met =
          (λ i. if word.dashes i then (named, trailing 1) else long_or_other s.rules (option o.rule.id) text (word.long i) named)
          ∙ (λ i. short_or_plain s.rules (option o.rule.id) text (word.short i) named)
          ∙ (λ i. let m = value_met (o.by_id i) o.rule.id text named in (m.0, next m.1))
          ∙ (λ i. (valued, next (if nat_lt (if same_id i then 1 else 0) (o.most i) then option o.rule.id else idle)))

      value_leads : Leads s awaiting text [] (walk_from valued)
      unfolding walked
      value_leads = record {
        fault =
            (λ i. or_else (if word.dashes i then [] else flag_word_fault s.rules s.args_override_self (word.long i) text named) (step_fault s 1 (value_word_met i).0 (value_word_met i).1))
            ∙ (λ i. or_else (option_map_or (λ flags. bundle_fault s.rules s.args_override_self flags named) (word.short i) []) []);
        walk = λ i. after_step s.rules text awaiting (value_word_met i).0 (value_word_met i).1;
      }

  module _ (name : Text) (o : IsOption name) (text : Text) where
    uses_joined : Uses s (option_word name text) (use_fault s.args_override_self o.rule (text ∷ [])) (used o.rule (text ∷ []))
    uses_joined = record { leads = joined_leads name o text }

    joined_as : (mixed joined : List Text) → ((h : Held) → outcome s (walk_from h) mixed ≡ outcome s (walk_from h) joined)
        → (h : Held) → outcome s (walk_from h) (option_word name text ∷ mixed) ≡ outcome s (walk_from h) (option_word name text ∷ joined)
    joined_as mixed joined same h =
        led s _ _ _ _ (uses_joined.leads h) mixed ∙ ap (preceded _) (same _) ∙ sym (led s _ _ _ _ (uses_joined.leads h) joined)

    two_as_joined : (rest : List Text) → IsWord text → Settles s rest → (h : Held) → outcome s (walk_from h) ((codes "--" ++ name) ∷ text ∷ rest) ≡ outcome s (walk_from h) (option_word name text ∷ rest)
    two_as_joined rest word settles h =
        led s _ _ _ _ (name_leads name o text h) (text ∷ rest)
        ∙ ap (preceded (settling s h)) (led s _ _ _ _ (value_leads name o text h word) rest
        ∙ settles (valued name o text h)
        ∙ (λ i. preceded (option_map_or (λ a. use_fault s.args_override_self a (text ∷ []) (settled s.rules h).rows) (o.by_id i) [])
        (outcome s (walk_from (record h { rows = used_by_id (o.by_id i) (text ∷ []) (settled s.rules h).rows; pending = None })) rest)))
        ∙ sym (preceded-twice (settling s h) (use_fault s.args_override_self o.rule (text ∷ []) (settled s.rules h).rows) _)
        ∙ sym (led s _ _ _ _ (uses_joined.leads h) rest)

  -- the words come to the same as the others, and use first what is held
  pub record Same (mixed joined : List Text) : Type 0 where
    pub settles : Settles s mixed
    pub same : (h : Held) → outcome s (walk_from h) mixed ≡ outcome s (walk_from h) joined

  -- the name and the value come to the same in two words as in one
  pub same_option : (name : Text) → IsOption name → (text : Text) → stands_alone text ≡ true
      → (mixed : List Text) → Settles s mixed → Same ((codes "--" ++ name) ∷ text ∷ mixed) (option_word name text ∷ mixed)
  same_option name o text stands mixed rest =
      let equal = two_as_joined name o text mixed (is_word text stands) rest in
      record {
        settles = λ h. equal h ∙ settles-first s _ _ _ (uses_joined name o text) mixed h ∙ sym (ap (preceded (settling s h)) (equal (settled s.rules h)));
        same = equal;
      }

  -- so they do after an option in one word
  pub same_after : (name : Text) → IsOption name → (text : Text) → (mixed joined : List Text) → Same mixed joined → Same (option_word name text ∷ mixed) (option_word name text ∷ joined)
  same_after name o text mixed joined rest = record { settles = settles-first s _ _ _ (uses_joined name o text) mixed; same = joined_as name o text mixed joined rest.same }
