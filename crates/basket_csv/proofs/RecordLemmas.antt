-- The records of a text, one after another.
use Rattle.std.proofs.Common.{◌≡◌, ℕ, zero, suc, ◌+◌, ◌-◌, ◌≤◌, ◌<◌, Bool, true, false, cond, List, [], ◌∷◌, ◌++◌, length, Option, Some, None, refl, ap, ◌∙◌, subst, arith}
use Rattle.std.proofs.lemmas.Grind.{common_steps}
use Rattle.csv.specs.Machine.{Read, next_record, step, after_end, ends_at_end, is_end, fields_after, field_after}
use Rattle.csv.specs.Reading.{records_from, records_next}
use Rattle.csv.specs.declared.parser.Config.{Config}
use Rattle.csv.specs.declared.parser.State.{State}
use Rattle.csv.specs.declared.parser.State.TheVariants as st
use Rattle.csv.specs.declared.parser.Action.{Action}
use Rattle.csv.specs.declared.parser.Terminator.{Terminator}

-- a step that ends a record leaves a state at which the end of the text ends none
abbrev Ends : State × Action → Type 0
Ends next = is_end next.1 ≡ true → ends_at_end next.0 ≡ false

pub ends_after_end : (t : Terminator) (c : ℕ) → ends_at_end (after_end t c) ≡ false
ends_after_end h1 h2 = grind (arith, common_steps)

ends-step : (cfg : Config) (s : State) (c : ℕ) → Ends (step cfg s c)
ends-step h1 h2 h3 = grind (arith, common_steps)

-- what a record that was read leaves: a state at which the end of the text ends none, and fewer bytes, unless there were none
pub record Leaves (read : Read) (bytes : List ℕ) : Type 0 where
  pub begins : ends_at_end read.1 ≡ false
  pub fewer : length read.2 ≤ length bytes - 1

pub leaves : (cfg : Config) (s : State) (fields : List (List ℕ)) (field bytes : List ℕ) (read : Read) → next_record cfg s fields field bytes ≡ Some read → Leaves read bytes
unfolding next_record
leaves cfg s fields field [] read e = at (ends_at_end s) e
  where
    at : (b : Bool) → cond b (Some (fields ++ (field ∷ []), st.StartRecord, [])) None ≡ Some read → Leaves read []
    at true e = let same : (fields ++ (field ∷ []), st.StartRecord, []) ≡ read = cc in subst (λ r. Leaves r []) same (record { begins = refl; fewer = omega arith })
    at false e = absurd cc
leaves cfg s fields field (c ∷ bytes) read e =
    at (is_end (step cfg s c).1) refl e (leaves cfg (step cfg s c).0 (fields_after (step cfg s c).1 fields field) (field_after (step cfg s c).1 c field) bytes read)
  where
    at : (b : Bool) → is_end (step cfg s c).1 ≡ b
        → cond b (Some (fields_after (step cfg s c).1 fields field, (step cfg s c).0, bytes)) (next_record cfg (step cfg s c).0 (fields_after (step cfg s c).1 fields field) (field_after (step cfg s c).1 c field) bytes) ≡ Some read
        → (next_record cfg (step cfg s c).0 (fields_after (step cfg s c).1 fields field) (field_after (step cfg s c).1 c field) bytes ≡ Some read → Leaves read bytes) → Leaves read (c ∷ bytes)
    at true ends e later =
        let same : (fields_after (step cfg s c).1 fields field, (step cfg s c).0, bytes) ≡ read = cc in
        subst (λ r. Leaves r (c ∷ bytes)) same (record { begins = ends-step cfg s c ends; fewer = omega arith })
    at false ends e later = let h = later e in record { begins = h.begins; fewer = let few = h.fewer in omega arith }

-- ---- the records of a text, of which no more are read than it has bytes

-- a record that was read of some bytes leaves fewer
pub fewer_left : (cfg : Config) (s : State) (bytes : List ℕ) (read : Read) → ends_at_end s ≡ false → next_record cfg s [] [] bytes ≡ Some read → length read.2 < length bytes
unfolding next_record
fewer_left cfg s [] read begins e = grind (arith, common_steps)
fewer_left cfg s (c ∷ bytes) read begins e = grind (arith, common_steps, leaves cfg s [] [] (c ∷ bytes) read e)

pub one_more : (cfg : Config) (n : ℕ) (s : State) (bytes : List ℕ) → ends_at_end s ≡ false → length bytes < n → records_from cfg (suc n) s bytes ≡ records_from cfg n s bytes
unfolding records_from
one_more cfg zero s bytes begins few = absurd (omega arith)
one_more cfg (suc n) s bytes begins few = at (next_record cfg s [] [] bytes) refl (one_more cfg n)
  where
    at : (o : Option Read) → next_record cfg s [] [] bytes ≡ o
        → ((t : State) (more : List ℕ) → ends_at_end t ≡ false → length more < n → records_from cfg (suc n) t more ≡ records_from cfg n t more)
        → records_next (records_from cfg (suc n)) o ≡ records_next (records_from cfg n) o
    at None e later = refl
    at (Some read) e later =
        let fewer = fewer_left cfg s bytes read begins e in
        ap (λ rows. read.0 ∷ rows) (later read.1 read.2 (leaves cfg s [] [] bytes read e).begins (omega (arith, fewer)))

enough : (cfg : Config) (more n : ℕ) (s : State) (bytes : List ℕ) → ends_at_end s ≡ false → length bytes < n → records_from cfg (more + n) s bytes ≡ records_from cfg n s bytes
enough cfg zero n s bytes begins few = ap (λ k. records_from cfg k s bytes) (let same : zero + n ≡ n = omega arith in same)
enough cfg (suc more) n s bytes begins few =
    let same : suc more + n ≡ suc (more + n) = omega arith in
    ap (λ k. records_from cfg k s bytes) same ∙ one_more cfg (more + n) s bytes begins (omega arith) ∙ enough cfg more n s bytes begins few

-- the records of a text: none, or the one that is read, and those of the bytes that it leaves
pub records_none : (cfg : Config) (s : State) (bytes : List ℕ) → next_record cfg s [] [] bytes ≡ None → records_from cfg (length bytes + 1) s bytes ≡ []
unfolding records_from
records_none cfg s bytes e = grind (arith, common_steps)

pub records_some : (cfg : Config) (s : State) (bytes : List ℕ) (read : Read) → ends_at_end s ≡ false → next_record cfg s [] [] bytes ≡ Some read
    → records_from cfg (length bytes + 1) s bytes ≡ read.0 ∷ records_from cfg (length read.2 + 1) read.1 read.2
unfolding records_from
records_some cfg s bytes read begins e =
    let same : length bytes + 1 ≡ suc (length bytes) = omega arith in
    let fewer = fewer_left cfg s bytes read begins e in
    let whole : length bytes ≡ length bytes - (length read.2 + 1) + (length read.2 + 1) = omega (arith, fewer) in
    grind (arith, common_steps, enough, leaves)
