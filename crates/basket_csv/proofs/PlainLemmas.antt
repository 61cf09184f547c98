-- Records that are taken from a text as they are there.
use Rattle.std.proofs.Common.{◌≡◌, ◌≢◌, Bor, ℕ, zero, suc, ◌+◌, ◌<◌, ◌≤◌, Bool, true, false, cond, eqb, ◌||◌, List, [], ◌∷◌, ◌++◌, length, take, drop, get_or, Option, Some, refl, sym, ap, subst, ◌∙◌, arith}
use Rattle.std.proofs.lemmas.Grind.{common_steps}
use Rattle.std.proofs.lemmas.Bool.{eq-eqb, ne_eqb}
use Rattle.std.proofs.lemmas.List.{get_or-drop, length-drop, map-append, nil_from_length, take_more, take-append-drop}
use Rattle.std.proofs.lemmas.Bool.Decides.{nat_tests}
use Rattle.csv.specs.Machine.{Read, Runs, next_record, step, after_end, ends_at_end, is_end, fields_after, field_after}
use Rattle.csv.specs.Reading.{records, records_from, records_next, strip_bom}
use Rattle.csv.specs.declared.parser.Config.{Config}
use Rattle.csv.specs.declared.parser.State.{State}
use Rattle.csv.specs.declared.parser.State.TheVariants as st
use Rattle.csv.specs.declared.parser.Action.{Action}
use Rattle.csv.specs.declared.parser.Action.TheVariants as act
use Rattle.csv.specs.declared.parser.Terminator.TheVariants as term
use Rattle.csv.proofs.ReadFacts.{run-copies, runs-step}
use Rattle.basket_read.specs.Fimi.{is_line_feed}
use Rattle.basket_csv.specs.Field.{ends_field, is_line_end, is_quoted}
use Rattle.basket_csv.specs.Record.{Begins, Takes, config_of, last_after, may_go_on}
use Rattle.basket_csv.proofs.LastLemmas.{last_push, texts}
use Rattle.basket_csv.proofs.RecordLemmas.{ends_after_end, one_more, records_none, records_some}

-- ---- a byte of a field without quotes

inside : (same low : Bool) (x y z : State × Action) → (same || low) ≡ false → cond same x (cond low y z) ≡ z
inside h1 h2 h3 h4 h5 h6 = grind (arith, common_steps)

goes_on : (separator byte : ℕ) → ends_field separator byte ≡ false → step (config_of separator) st.InField byte ≡ (st.InField, act.Copy)
goes_on separator byte e = inside (eqb byte separator) (is_line_end byte) _ _ _ e

inside_more : (separator : ℕ) (text : List ℕ) (index : ℕ) → index < length text → ends_field separator (get_or text index 0) ≡ false
    → Runs (config_of separator) st.InField (take index text) → Runs (config_of separator) st.InField (take (index + 1) text)
inside_more separator text index below e runs = grind (arith, common_steps, take_more, runs-step, goes_on)

pub runs_inside : (separator : ℕ) (text : List ℕ) (end : ℕ) → end ≤ length text → ((index : ℕ) → index < end → ends_field separator (get_or text index 0) ≡ false)
    → Runs (config_of separator) st.InField (take end text)
unfolding Runs
runs_inside separator text zero within inside = tt
runs_inside separator text (suc end) within inside =
    let one : end + 1 ≡ suc end = omega arith in
    subst (λ n. Runs (config_of separator) st.InField (take n text)) one
    (inside_more separator text end (omega arith) (inside end (omega arith)) (runs_inside separator text end (omega arith) (λ index below. inside index (omega arith))))

ends_inside : (separator : ℕ) (text : List ℕ) (end : ℕ) → end ≤ length text → ((index : ℕ) → index < end → ends_field separator (get_or text index 0) ≡ false)
    → is_line_feed (last_after 0 (take end text)) ≡ false
ends_inside h1 h2 h3 h4 h5 = grind (arith, common_steps)

-- ---- what a byte makes of a record

abbrev next_by : Config → List (List ℕ) → List ℕ → ℕ → List ℕ → State × Action → Option Read
next_by cfg fields field byte rest next =
    cond (is_end next.1) (Some (fields_after next.1 fields field, next.0, rest)) (next_record cfg next.0 (fields_after next.1 fields field) (field_after next.1 byte field) rest)

stepped : (cfg : Config) (s : State) (fields : List (List ℕ)) (field : List ℕ) (byte : ℕ) (rest : List ℕ) (next : State × Action) → step cfg s byte ≡ next
    → next_record cfg s fields field (byte ∷ rest) ≡ next_by cfg fields field byte rest next
unfolding next_record
stepped cfg s fields field byte rest next e = ap (next_by cfg fields field byte rest) e

pub first_field : (separator : ℕ) (text : List ℕ) → Begins text → 0 < length text
    → next_record (config_of separator) st.StartRecord [] [] text ≡ next_record (config_of separator) st.StartField [] [] text
first_field h1 h2 h3 h4 = grind (arith, common_steps, stepped)

unquoted : (separator : ℕ) (fields : List (List ℕ)) (text : List ℕ) → is_quoted text ≡ false
    → next_record (config_of separator) st.StartField fields [] text ≡ next_record (config_of separator) st.InField fields [] text
unfolding next_record
unquoted h1 h2 h3 h4 = grind (arith, common_steps)

-- a field without quotes
pub field_passed : (separator : ℕ) (fields : List (List ℕ)) (text : List ℕ) (end : ℕ) → is_quoted text ≡ false → Runs (config_of separator) st.InField (take end text)
    → next_record (config_of separator) st.StartField fields [] text ≡ next_record (config_of separator) st.InField fields (take end text) (drop end text)
field_passed separator fields text end h runs =
    let cfg = config_of separator in
    unquoted separator fields text h ∙ ap (next_record cfg st.InField fields []) (sym (take-append-drop end text))
    ∙ run-copies cfg st.InField fields [] (take end text) (drop end text) runs

-- a separator behind it
pub field_ended : (separator : ℕ) (fields : List (List ℕ)) (field : List ℕ) (byte : ℕ) (more : List ℕ) → eqb byte separator ≡ true
    → next_record (config_of separator) st.InField fields field (byte ∷ more) ≡ next_record (config_of separator) st.StartField (fields ++ field ∷ []) [] more
field_ended separator fields field byte more e = grind (arith, common_steps, stepped)

-- an end of a line behind it
record_ended : (separator : ℕ) (fields : List (List ℕ)) (field : List ℕ) (byte : ℕ) (more : List ℕ) → eqb byte separator ≡ false → is_line_end byte ≡ true
    → next_record (config_of separator) st.InField fields field (byte ∷ more) ≡ Some (fields ++ field ∷ [], after_end term.CRLF byte, more)
record_ended separator fields field byte more e f =
    stepped (config_of separator) st.InField fields field byte more (after_end term.CRLF byte, act.EndRecord)
    (ap (λ b. cond b (st.StartField, act.EndField) (cond (is_line_end byte) (after_end term.CRLF byte, act.EndRecord) (st.InField, act.Copy))) e
    ∙ ap (λ b. cond b (after_end term.CRLF byte, act.EndRecord) (st.InField, act.Copy)) f)

-- ---- the end of a line between two records

passed_over : (separator byte : ℕ) (more : List ℕ) → is_line_end byte ≡ true
    → next_record (config_of separator) st.StartRecord [] [] (byte ∷ more) ≡ next_record (config_of separator) st.StartRecord [] [] more
passed_over separator byte more e = grind (arith, common_steps, stepped)

after_return : (separator : ℕ) (more : List ℕ) → next_record (config_of separator) st.AfterCr [] [] more ≡ next_record (config_of separator) st.StartRecord [] [] more
unfolding next_record
after_return separator [] = refl
after_return separator (byte ∷ more) = grind (arith, common_steps)

after_line : (separator byte : ℕ) (more : List ℕ) → next_record (config_of separator) (after_end term.CRLF byte) [] [] more ≡ next_record (config_of separator) st.StartRecord [] [] more
after_line separator byte more = grind (arith, common_steps, after_return)

-- a byte less, where the next record is the same
records_same : (separator : ℕ) (s : State) (byte : ℕ) (more : List ℕ) → ends_at_end s ≡ false
    → next_record (config_of separator) st.StartRecord [] [] (byte ∷ more) ≡ next_record (config_of separator) s [] [] more
    → records (config_of separator) (byte ∷ more) ≡ records_from (config_of separator) (length more + 1) s more
unfolding records_from
records_same separator s byte more begins e =
    let cfg = config_of separator in
    let n = length more in
    let two : length (byte ∷ more) + 1 ≡ suc (suc n) = omega arith in
    let one : suc n ≡ n + 1 = omega arith in
    ap (λ k. records_from cfg k st.StartRecord (byte ∷ more)) two ∙ ap (records_next (records_from cfg (suc n))) e
    ∙ one_more cfg (suc n) s more begins (omega arith) ∙ ap (λ k. records_from cfg k s more) one

pub line_end_passed : (separator byte : ℕ) (more : List ℕ) → is_line_end byte ≡ true → records (config_of separator) (byte ∷ more) ≡ records (config_of separator) more
line_end_passed separator byte more e = records_same separator st.StartRecord byte more refl (passed_over separator byte more e)

-- a text without bytes has no record
pub no_record : (separator : ℕ) (text : List ℕ) → length text ≡ 0 → records (config_of separator) text ≡ []
unfolding next_record
no_record separator text none = ap (records (config_of separator)) (nil_from_length text none) ∙ records_none (config_of separator) st.StartRecord [] refl

-- ---- a record that was taken

line_end_is_low : (byte : ℕ) → is_line_end byte ≡ true → byte < 14
line_end_is_low byte e = grind (arith, nat_tests)

no_mark : (byte : ℕ) (more : List ℕ) → eqb byte 239 ≡ false → strip_bom (byte ∷ more) ≡ byte ∷ more
unfolding strip_bom
no_mark h1 h2 h3 = grind (arith, common_steps)

pub taken_by_end : (separator : ℕ) (text : List ℕ) (fields : List (List ℕ)) (field : List ℕ) → may_go_on (fields ++ field ∷ []) ≡ false
    → next_record (config_of separator) st.StartRecord [] [] text ≡ next_record (config_of separator) st.InField fields field [] → Takes separator text (fields ++ field ∷ []) []
unfolding next_record strip_bom
taken_by_end separator text fields field whole e = record {
  rows = records_some (config_of separator) st.StartRecord text (fields ++ field ∷ [], st.StartRecord, []) refl e;
  whole = whole;
  unmarked = refl;
}

pub taken_by_line : (separator : ℕ) (text : List ℕ) (fields : List (List ℕ)) (field : List ℕ) (byte : ℕ) (more : List ℕ) → may_go_on (fields ++ field ∷ []) ≡ false
    → eqb byte separator ≡ false → ends_field separator byte ≡ true
    → next_record (config_of separator) st.StartRecord [] [] text ≡ next_record (config_of separator) st.InField fields field (byte ∷ more) → Takes separator text (fields ++ field ∷ []) (byte ∷ more)
taken_by_line separator text fields field byte more whole other ends e =
    let cfg = config_of separator in
    let line : is_line_end byte ≡ true = sym (ap (λ b. b || is_line_end byte) other) ∙ ends in
    let low = line_end_is_low byte line in
    let read = e ∙ record_ended separator fields field byte more other line in
    let s = after_end term.CRLF byte in
    let later = records_same separator s byte more (ends_after_end term.CRLF byte) (passed_over separator byte more line ∙ sym (after_line separator byte more)) in
    record {
      rows = records_some cfg st.StartRecord text (fields ++ field ∷ [], s, more) refl read ∙ ap (λ rows. (fields ++ field ∷ []) ∷ rows) (sym later);
      whole = whole;
      unmarked = no_mark byte more (grind (arith, nat_tests));
    }

-- ---- the fields of a record, one after another

module _ (separator : ℕ) (text rest : List ℕ) (fields all : List (Bor (List ℕ))) (field : Bor (List ℕ)) (behind : List ℕ) (end : ℕ)
    (plain : is_quoted rest ≡ false) (within : end ≤ length rest) (inside : (index : ℕ) → index < end → ends_field separator (get_or rest index 0) ≡ false)
    (front : field.now ≡ take end rest) (back : behind ≡ drop end rest) (more : all ≡ fields ++ field ∷ [])
    (so_far : next_record (config_of separator) st.StartRecord [] [] text ≡ next_record (config_of separator) st.StartField (texts fields) [] rest) where
  one_more_text : texts fields ++ take end rest ∷ [] ≡ texts all
  one_more_text = ap (λ last. texts fields ++ last ∷ []) (sym front) ∙ sym (map-append (λ (f : Bor (List ℕ)). f.now) fields (field ∷ [])) ∙ ap texts (sym more)

  to_end : next_record (config_of separator) st.StartRecord [] [] text ≡ next_record (config_of separator) st.InField (texts fields) (take end rest) behind
  to_end = grind (arith, common_steps, field_passed, texts, runs_inside, inside)

  stays : may_go_on (texts fields ++ take end rest ∷ []) ≡ false
  stays = ap (λ f. is_line_feed (last_after 0 f)) (last_push [] (take end rest) (texts fields)) ∙ ends_inside separator rest end within inside

  pub last_taken : length behind ≡ 0 → Takes separator text (texts all) behind
  last_taken none =
      let empty : [] ≡ behind = sym (nil_from_length behind none) in
      subst (λ (bytes : List ℕ). next_record (config_of separator) st.StartRecord [] [] text ≡ next_record (config_of separator) st.InField (texts fields) (take end rest) bytes → Takes separator text (texts all) bytes) empty
      (λ e. subst (λ fs. Takes separator text fs []) one_more_text (taken_by_end separator text (texts fields) (take end rest) stays e)) to_end

  module _ (byte : ℕ) (later : List ℕ) (split : behind ≡ byte ∷ later) where
    reached : next_record (config_of separator) st.StartRecord [] [] text ≡ next_record (config_of separator) st.InField (texts fields) (take end rest) (byte ∷ later)
    reached = to_end ∙ ap (next_record (config_of separator) st.InField (texts fields) (take end rest)) split

    pub next_taken : byte ≡ separator → next_record (config_of separator) st.StartRecord [] [] text ≡ next_record (config_of separator) st.StartField (texts all) [] later
    next_taken same = grind (arith, common_steps, reached, field_ended, texts, eq-eqb, one_more_text)

    pub line_taken : byte ≢ separator → (end < length rest → ends_field separator (get_or rest end 0) ≡ true) → Takes separator text (texts all) behind
    line_taken other ends =
        let same : drop end rest ≡ byte ∷ later = sym back ∙ split in
        let size = length-drop end rest in
        let counted = ap length same in
        let at : end ≡ end + 0 = omega arith in
        let first : get_or rest end 0 ≡ byte = ap (λ k. get_or rest k 0) at ∙ sym (get_or-drop end rest 0 0) ∙ ap (λ bytes. get_or bytes 0 0) same in
        let stops = ap (ends_field separator) (sym first) ∙ ends (omega (arith, size, counted)) in
        let took = taken_by_line separator text (texts fields) (take end rest) byte later stays (ne_eqb byte separator other) stops reached in
        subst (λ bytes. Takes separator text (texts all) bytes) (sym split) (subst (λ fs. Takes separator text fs (byte ∷ later)) one_more_text took)
