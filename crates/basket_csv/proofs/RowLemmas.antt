-- The fields of a record, one after another.
use Rattle.std.proofs.Common.{◌≡◌, ℕ, zero, suc, ◌+◌, ◌≤◌, ◌<◌, Bool, true, false, cond, ◌&&◌, List, [], ◌∷◌, ◌++◌, length, map, drop, get_or, Option, Some, None, fold, eqb, refl, sym, ap, ◌∙◌, arith}
use Rattle.std.proofs.lemmas.Grind.{common_steps}
use Rattle.std.specs.Option.{IfSome}
use Rattle.std.specs.Str.{is_utf8, chars}
use Rattle.std.proofs.lemmas.Bool.{and_left, and_right}
use Rattle.std.proofs.lemmas.List.{drop_all, at_drop_more}
use Rattle.csv.specs.Records.{field_at}
use Rattle.basket_read.specs.declared.fault.ReadFault.{ReadFault}
use Rattle.basket_read.specs.declared.fault.ReadFault.TheVariants.{NotText}
use Rattle.basket_read.specs.Fimi.{is_nil}
use Rattle.basket_csv.specs.Field.{trimmed}
use Rattle.basket_names.specs.Names.{with_name, number_in, IsKnown}
use Rattle.basket_csv.specs.Row.{IsKnownField}
use Rattle.basket_names.proofs.theory.Names.{among_with, number_in_all}
use Rattle.basket_csv.specs.Csv.{field_in, is_text, names_of}

-- ---- the field at an index

pub field_found : (fields : List (List ℕ)) (index : ℕ) (field : List ℕ) → Some field ≡ field_at fields index → field_in fields index ≡ field
unfolding field_at
field_found [] index field e = absurd cc
field_found (first ∷ fields) zero field e = cc
field_found (first ∷ fields) (suc index) field e = field_found fields index field e

pub field_missing : (fields : List (List ℕ)) (index : ℕ) → None ≡ field_at fields index → field_in fields index ≡ []
unfolding field_at
field_missing [] index e = refl
field_missing (first ∷ fields) zero e = absurd cc
field_missing (first ∷ fields) (suc index) e = field_missing fields index e

-- a field that is a known name as it is
pub known_field : (result : Option ℕ) (names : List (List ℕ)) (field found : List ℕ) → field ≡ found → trimmed found ≡ found → 0 < length found
    → IfSome result (IsKnown names found) → IfSome result (IsKnownField names field)
known_field h1 h2 h3 h4 h5 h6 h7 h8 = grind (arith, common_steps)

-- nothing is UTF-8
pub nothing_is_text : is_utf8 [] ≡ true
unfolding is_utf8 chars
nothing_is_text = refl

pub no_text : (fields : List (List ℕ)) (index : ℕ) → is_utf8 (field_in fields index) ≡ false → is_text fields ≡ false
no_text [] index e = absurd (let both : true ≡ false = sym nothing_is_text ∙ e in cc)
no_text (field ∷ fields) zero e = and_left (is_utf8 field) (is_text fields) e
no_text (field ∷ fields) (suc index) e = and_right (is_utf8 field) (is_text fields) (no_text fields index e)

pub text_fault : (nth : ℕ) (fields : List (List ℕ)) (fault : Option ReadFault) (index : ℕ) → is_utf8 (field_in fields index) ≡ false → cond (is_text fields) fault (Some (NotText nth)) ≡ Some (NotText nth)
text_fault nth fields fault index e = ap (λ b. cond b fault (Some (NotText nth))) (no_text fields index e)

-- ---- the fields from an index on

pub text_goes_on : (fields : List (List ℕ)) (index : ℕ) → index < length fields → is_text (drop index fields) ≡ (is_utf8 (get_or fields index []) && is_text (drop (index + 1) fields))
text_goes_on fields index below = at_drop_more is_text fields index [] below

pub text_ends : (fields : List (List ℕ)) (index : ℕ) → length fields ≤ index → is_text (drop index fields) ≡ true
text_ends fields index all = ap is_text (drop_all index fields all)

pub names_go_on : (fields : List (List ℕ)) (index : ℕ) → index < length fields → is_nil (trimmed (get_or fields index [])) ≡ false
    → names_of (drop index fields) ≡ trimmed (get_or fields index []) ∷ names_of (drop (index + 1) fields)
names_go_on fields index below e = grind (arith, common_steps)

pub nil_test : (name : List ℕ) (b : Bool) → b ≡ eqb (length name) 0 → is_nil name ≡ b
nil_test h1 h2 h3 = grind (arith, common_steps)

-- ---- the names of a record, numbered one after another

-- the names from `first` on are numbered up to an index: these are the names then, and the numbers
pub record NumbersUpTo (fields : List (List ℕ)) (first index : ℕ) (before now : List (List ℕ)) (so_far : List ℕ) : Type 0 where
  pub text : is_text (drop first fields) ≡ is_text (drop index fields)
  pub names : fold with_name before (names_of (drop first fields)) ≡ fold with_name now (names_of (drop index fields))
  pub numbers : map (number_in (fold with_name before (names_of (drop first fields)))) (names_of (drop first fields))
      ≡ so_far ++ map (number_in (fold with_name before (names_of (drop first fields)))) (names_of (drop index fields))

module _ (fields : List (List ℕ)) (first index : ℕ) (before names : List (List ℕ)) (numbers : List ℕ) (below : index < length fields)
    (utf8 : is_utf8 (get_or fields index []) ≡ true) (h : NumbersUpTo fields first index before names numbers) where
  abbrev all : List (List ℕ)
  all = fold with_name before (names_of (drop first fields))

  more_text : is_text (drop first fields) ≡ is_text (drop (index + 1) fields)
  more_text = h.text ∙ text_goes_on fields index below ∙ ap (λ b. b && is_text (drop (index + 1) fields)) utf8

  pub no_name : is_nil (trimmed (get_or fields index [])) ≡ true → NumbersUpTo fields first (index + 1) before names numbers
  no_name nil = grind (arith, common_steps)

  pub one_name : (new : List (List ℕ)) (number : ℕ) → is_nil (trimmed (get_or fields index [])) ≡ false
      → new ≡ with_name names (trimmed (get_or fields index [])) → number ≡ number_in new (trimmed (get_or fields index []))
      → NumbersUpTo fields first (index + 1) before new (numbers ++ number ∷ [])
  one_name new number some e n = grind (arith, common_steps, names_go_on, among_with, number_in_all, more_text)

pub known_some : (names : List (List ℕ)) (field : List ℕ) (number : ℕ) → IsKnownField names field number → is_nil (trimmed field) ≡ false
known_some names field number known = grind (arith, common_steps)

pub known_name : (fields : List (List ℕ)) (first index : ℕ) (before names : List (List ℕ)) (numbers : List ℕ) (number : ℕ) → index < length fields
    → IsKnownField names (get_or fields index []) number → NumbersUpTo fields first index before names numbers
    → NumbersUpTo fields first (index + 1) before names (numbers ++ number ∷ [])
known_name fields first index before names numbers number below known h =
    let field = get_or fields index [] in
    let same = sym known.trimmed in
    one_name fields first index before names numbers below known.known.text h names number (known_some names field number known) (known.known.stay ∙ ap (with_name names) same) (known.known.index ∙ ap (number_in names) same)
