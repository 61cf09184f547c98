-- A part of a text, none of whose records goes on after it, is read as a text of its own.
use Rattle.std.proofs.Common.{◌≡◌, ◌⊎◌, inl, inr, ⊎_elim, ℕ, zero, suc, ◌+◌, ◌<◌, Bool, true, false, cond, eqb, List, [], ◌∷◌, ◌++◌, length, Option, Some, None, refl, sym, ap, ◌∙◌, arith, append-nil}
use Rattle.std.proofs.lemmas.Grind.{common_steps}
use Rattle.csv.specs.Machine.{Read, next_record, step, ends_at_end, is_end, fields_after, field_after}
use Rattle.csv.specs.Reading.{records_from, strip_bom}
use Rattle.csv.specs.declared.parser.State.{State}
use Rattle.csv.specs.declared.parser.State.TheVariants as st
use Rattle.csv.specs.declared.parser.Action.{Action}
use Rattle.csv.specs.declared.parser.Action.TheVariants as act
use Rattle.basket_csv.specs.Csv.{after_header}
use Rattle.basket_csv.specs.Parts.{IsWhole}
use Rattle.basket_csv.specs.Record.{config_of, last_after, may_go_on}
use Rattle.basket_csv.specs.Records.{records_of, last_may_go_on}
use Rattle.basket_csv.proofs.RecordLemmas.{leaves, fewer_left, records_none, records_some}
use Rattle.basket_csv.proofs.LastLemmas.{last_push}
use Rattle.basket_csv.proofs.MarkLemmas.{ends_stripped, stripped_part}

-- ---- bytes

-- ---- the state after a byte, which is a line feed where a record may go on only inside quotes

abbrev Fits : ℕ → State → List (List ℕ) → List ℕ → Type 0
Fits last st.StartRecord fields field = (fields ≡ []) × (field ≡ [])
Fits last st.AfterCr fields field = (eqb last 10 ≡ false) × (fields ≡ []) × (field ≡ [])
Fits last st.StartField fields field = eqb last 10 ≡ false
Fits last st.InField fields field = eqb last 10 ≡ false
Fits last st.InQuoted fields field = eqb last 10 ≡ true → eqb (last_after 0 field) 10 ≡ true
Fits last st.AfterQuote fields field = eqb last 10 ≡ false
Fits last st.InEscape fields field = ⊥
Fits last st.InComment fields field = ⊥

-- the same of a step: a record that ends leaves no field
abbrev Follows : ℕ → List (List ℕ) → List ℕ → State × Action → Type 0
Follows c fields field (s, act.EndRecord) = Fits c s [] []
Follows c fields field (s, act.EndField) = Fits c s (fields ++ field ∷ []) []
Follows c fields field (s, act.Skip) = Fits c s fields field
Follows c fields field (s, act.Copy) = Fits c s fields (field ++ c ∷ [])

follows-step : (separator last c : ℕ) (s : State) (fields : List (List ℕ)) (field : List ℕ) → eqb separator 10 ≡ false → Fits last s fields field
    → Follows c fields field (step (config_of separator) s c)
follows-step h1 h2 h3 h4 h5 h6 h7 h8 = grind (arith, common_steps)

follows-end : (c : ℕ) (fields : List (List ℕ)) (field : List ℕ) (s : State) (a : Action) → is_end a ≡ true → Follows c fields field (s, a) → Fits c s [] []
follows-end h1 h2 h3 h4 h5 h6 h7 = grind (arith, common_steps)

follows-more : (c : ℕ) (fields : List (List ℕ)) (field : List ℕ) (s : State) (a : Action) → is_end a ≡ false → Follows c fields field (s, a) → Fits c s (fields_after a fields field) (field_after a c field)
follows-more h1 h2 h3 h4 h5 h6 h7 = grind (arith, common_steps)

-- ---- the next record of a text that ends with a line feed, and that of the text with more after it

abbrev next : ℕ → State → List (List ℕ) → List ℕ → List ℕ → Option Read
next separator s fields field bytes = next_record (config_of separator) s fields field bytes

-- it ends in the text
record Ended (separator : ℕ) (s : State) (fields : List (List ℕ)) (field bytes more : List ℕ) : Type 0 where
  read : Read
  last : ℕ
  here : next separator s fields field bytes ≡ Some read
  there : next separator s fields field (bytes ++ more) ≡ Some (read.0, read.1, read.2 ++ more)
  fits : Fits last read.1 [] []
  ends : eqb (last_after last read.2) 10 ≡ true

-- there is none in the text
record NoneLeft (separator : ℕ) (s : State) (fields : List (List ℕ)) (field bytes more : List ℕ) : Type 0 where
  here : next separator s fields field bytes ≡ None
  there : next separator s fields field (bytes ++ more) ≡ next separator st.StartRecord [] [] more

-- it may go on after the text
record GoesOn (separator : ℕ) (s : State) (fields : List (List ℕ)) (field bytes : List ℕ) : Type 0 where
  done : List (List ℕ)
  last : List ℕ
  here : next separator s fields field bytes ≡ Some (done ++ last ∷ [], st.StartRecord, [])
  ends : eqb (last_after 0 last) 10 ≡ true

abbrev Next : ℕ → State → List (List ℕ) → List ℕ → List ℕ → List ℕ → Type 0
Next separator s fields field bytes more = Ended separator s fields field bytes more ⊎ NoneLeft separator s fields field bytes more ⊎ GoesOn separator s fields field bytes

at_end : (separator last : ℕ) (s : State) (fields : List (List ℕ)) (field more : List ℕ) → Fits last s fields field → eqb last 10 ≡ true → Next separator s fields field [] more
unfolding next_record
at_end h1 h2 h3 h4 h5 h6 h7 h8 = grind (arith, common_steps)

next_of : (separator last : ℕ) (s : State) (fields : List (List ℕ)) (field bytes more : List ℕ) → eqb separator 10 ≡ false → Fits last s fields field → eqb (last_after last bytes) 10 ≡ true
    → Next separator s fields field bytes more
unfolding next_record
next_of separator last s fields field [] more other fits ends = at_end separator last s fields field more fits ends
next_of separator last s fields field (c ∷ bytes) more other fits ends =
    let cfg = config_of separator in
    at (is_end (step cfg s c).1) refl (next_of separator c (step cfg s c).0 (fields_after (step cfg s c).1 fields field) (field_after (step cfg s c).1 c field) bytes more other)
  where
    s2 : State
    s2 = (step (config_of separator) s c).0

    a : Action
    a = (step (config_of separator) s c).1

    follows : Follows c fields field (s2, a)
    follows = follows-step separator last c s fields field other fits

    choose : Bool → List ℕ → Option Read
    choose b bytes = cond b (Some (fields_after a fields field, s2, bytes)) (next separator s2 (fields_after a fields field) (field_after a c field) bytes)

    at : (b : Bool) → is_end a ≡ b
        → (Fits c s2 (fields_after a fields field) (field_after a c field) → eqb (last_after c bytes) 10 ≡ true → Next separator s2 (fields_after a fields field) (field_after a c field) bytes more)
        → Next separator s fields field (c ∷ bytes) more
    at true e later = inl (record {
      read = (fields_after a fields field, s2, bytes);
      last = c;
      here = ap (λ b. choose b bytes) e;
      there = ap (λ b. choose b (bytes ++ more)) e;
      fits = follows-end c fields field s2 a e follows;
      ends = ends;
    })
    at false e later = ⊎_elim
        (λ r. inl (record { read = r.read; last = r.last; here = ap (λ b. choose b bytes) e ∙ r.here; there = ap (λ b. choose b (bytes ++ more)) e ∙ r.there; fits = r.fits; ends = r.ends }))
        (⊎_elim
        (λ r. inr (inl (record { here = ap (λ b. choose b bytes) e ∙ r.here; there = ap (λ b. choose b (bytes ++ more)) e ∙ r.there })))
        (λ r. inr (inr (record { done = r.done; last = r.last; here = ap (λ b. choose b bytes) e ∙ r.here; ends = r.ends }))))
        (later (follows-more c fields field s2 a e follows) ends)

-- ---- the records of a text and of more after it

abbrev rows : ℕ → State → List ℕ → List (List (List ℕ))
rows separator s bytes = records_from (config_of separator) (length bytes + 1) s bytes

-- whether the last of some records may go on is the same, or not so, with others before them
last_alone : (before : Bool) (rows : List (List (List ℕ))) → last_may_go_on before rows ≡ false → last_may_go_on false rows ≡ false
last_alone before [] none = refl
last_alone before (row ∷ rows) none = none

joined : (separator n last : ℕ) (s : State) (bytes more : List ℕ) → eqb separator 10 ≡ false → length bytes < n → Fits last s [] [] → ends_at_end s ≡ false
    → eqb (last_after last bytes) 10 ≡ true → last_may_go_on false (rows separator s bytes) ≡ false
    → rows separator s (bytes ++ more) ≡ rows separator s bytes ++ rows separator st.StartRecord more
unfolding next_record
joined separator zero last s bytes more other few fits begins ends whole = absurd (omega (arith, few))
joined separator (suc n) last s bytes more other few fits begins ends whole =
    ⊎_elim
    (λ (r : Ended separator s [] [] bytes more).
    let cfg = config_of separator in
    let here = records_some cfg s bytes r.read begins r.here in
    let there = records_some cfg s (bytes ++ more) (r.read.0, r.read.1, r.read.2 ++ more) begins r.there in
    let fewer = fewer_left cfg s bytes r.read begins r.here in
    let later = joined separator n r.last r.read.1 r.read.2 more other (omega (arith, fewer, few)) r.fits (leaves cfg s [] [] bytes r.read r.here).begins r.ends
    (last_alone (may_go_on r.read.0) (rows separator r.read.1 r.read.2) (sym (ap (last_may_go_on false) here) ∙ whole)) in
    there ∙ ap (λ l. r.read.0 ∷ l) later ∙ ap (λ l. l ++ rows separator st.StartRecord more) (sym here))
    (⊎_elim
    (λ (r : NoneLeft separator s [] [] bytes more).
    same_next separator s st.StartRecord (bytes ++ more) more begins refl r.there ∙ ap (λ l. l ++ rows separator st.StartRecord more) (sym (records_none (config_of separator) s bytes r.here)))
    (λ (r : GoesOn separator s [] [] bytes).
    let here = records_some (config_of separator) s bytes (r.done ++ r.last ∷ [], st.StartRecord, []) begins r.here in
    let none = records_none (config_of separator) st.StartRecord [] (no_bytes separator) in
    let ends : may_go_on (r.done ++ r.last ∷ []) ≡ true = ap (λ field. eqb (last_after 0 field) 10) (last_push [] r.last r.done) ∙ r.ends in
    let goes_on : last_may_go_on false (rows separator s bytes) ≡ true = ap (last_may_go_on false) here ∙ ap (last_may_go_on (may_go_on (r.done ++ r.last ∷ []))) none ∙ ends in
    absurd cc))
    (next_of separator last s [] [] bytes more other fits ends)
  where
    no_bytes : (separator : ℕ) → next separator st.StartRecord [] [] [] ≡ None
    no_bytes separator = refl

    same_next : (separator : ℕ) (s t : State) (a b : List ℕ) → ends_at_end s ≡ false → ends_at_end t ≡ false → next separator s [] [] a ≡ next separator t [] [] b → rows separator s a ≡ rows separator t b
    same_next separator s t a b begins begins2 same = at (next separator t [] [] b) refl
      where
        at : (o : Option Read) → next separator t [] [] b ≡ o → rows separator s a ≡ rows separator t b
        at None e = records_none (config_of separator) s a (same ∙ e) ∙ sym (records_none (config_of separator) t b e)
        at (Some read) e = records_some (config_of separator) s a read begins (same ∙ e) ∙ sym (records_some (config_of separator) t b read begins2 e)

-- ---- the law

pub no_records : (separator : ℕ) → records_of separator [] ≡ []
unfolding strip_bom records_from next_record
no_records separator = refl

-- a part is whole if its last record doesn't end with a line feed, and if the header is in it
pub whole_part : (separator : ℕ) (header : Bool) (part : List ℕ) → eqb separator 10 ≡ false → last_may_go_on false (records_of separator part) ≡ false
    → (header ≡ true → 0 < length (records_of separator part)) → IsWhole separator header part
whole_part separator header part other whole has more (inl none) =
    ap (λ l. after_header header (records_of separator (part ++ l))) none ∙ ap (λ l. after_header header (records_of separator l)) (append-nil part)
    ∙ sym (append-nil _) ∙ ap (λ l. after_header header (records_of separator part) ++ l) (sym (no_records separator) ∙ ap (records_of separator) (sym none))
whole_part separator header part other whole has more (inr cut) =
    let ends = ap (λ x. eqb x 10) cut.0 in
    ap (λ l. after_header header (records_from (config_of separator) (length l + 1) st.StartRecord l)) (stripped_part part more ends cut.1)
    ∙ ap (after_header header) (joined separator (length (strip_bom part) + 1) 10 st.StartRecord (strip_bom part) more other (omega arith) (refl, refl) refl (ends_stripped part ends) whole)
    ∙ passed header (records_of separator part) has
    ∙ ap (λ l. after_header header (records_of separator part) ++ rows separator st.StartRecord l) (sym cut.1)
  where
    others : List (List (List ℕ))
    others = rows separator st.StartRecord more

    passed : (header : Bool) (first : List (List (List ℕ))) → (header ≡ true → 0 < length first) → after_header header (first ++ others) ≡ after_header header first ++ others
    passed false first has = refl
    passed true [] has = absurd (let some = has refl in omega (arith, some))
    passed true (row ∷ first) has = refl
