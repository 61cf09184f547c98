-- Records of a table, field after field.
use Rattle.std.proofs.Common.{◌≡◌, ◌≢◌, ◌+◌, ◌-◌, ◌^◌, ◌<◌, ◌++◌, ◌==◌, ℕ, Bor, true, false, not, min, List, [], ◌∷◌, Option, Some, None, cond, get_or, length, option_map, take, decimal, refl, ap, arith, zero, suc}
use Rattle.std.proofs.lemmas.Grind.{common_steps}
use Rattle.std.specs.Prelude.{slice_get, slice_index_or, unwrap_or}
use Rattle.std.specs.Io.KnownBytes.{Appends}
use Rattle.std.specs.declared.alloc.Global.{Global}
use Rattle.std.specs.declared.vec.Vec.{Vec}
use Rattle.std.proofs.lemmas.Bool.{ne_eqb}
use Rattle.std.proofs.lemmas.Fmt.{decimal_nonempty}
use Rattle.std.proofs.lemmas.List.{append_assoc, append-nil}
use Rattle.csv.specs.Writing.{field_text, fields_text, fields_written, has_written, is_blank, next_sep, row_body, text_written, writer_setup}
use Rattle.csv.specs.declared.writer.Writer.{Writer}
use Rattle.csv.specs.declared.writer.WriterBuilder.{WriterBuilder}
use Rattle.basket_report.specs.Table.{HasFields, held, names_of, writer_of}

-- what stands before a field, by the fields before it
abbrev pub sep_after : WriterBuilder → List (List ℕ) → List ℕ
sep_after cfg [] = []
sep_after cfg (field ∷ fields) = cfg.delimiter ∷ []

fields_text-push : (cfg : WriterBuilder) (fields : List (List ℕ)) (field : List ℕ) → fields_text cfg (fields ++ field ∷ []) ≡ fields_text cfg fields ++ cfg.delimiter ∷ field_text cfg field
unfolding fields_text
fields_text-push cfg [] field = grind (arith, common_steps)
fields_text-push cfg (first ∷ fields) field = grind (arith, common_steps, fields_text-push cfg fields field)

pub row_body-push : (cfg : WriterBuilder) (fields : List (List ℕ)) (field : List ℕ) → row_body cfg (fields ++ field ∷ []) ≡ row_body cfg fields ++ (sep_after cfg fields ++ field_text cfg field)
unfolding fields_text
row_body-push h1 h2 h3 = grind (arith, common_steps, append-nil, fields_text-push, append_assoc)

-- a record of two fields or more shows
pub later_shows : (cfg : WriterBuilder) (fields : List (List ℕ)) (field : List ℕ) → fields ≢ [] → is_blank cfg (fields ++ field ∷ []) ≡ false
unfolding is_blank
later_shows h1 h2 h3 h4 = grind (arith, common_steps)

no_zero : (n : ℕ) → 0 < n → (n == 0) ≡ false
no_zero n some = ne_eqb n 0 (λ e. omega (arith, e, some))

-- so does a record of a number
number_shows : (separator n : ℕ) → n < 2 ^ 64 → is_blank (writer_of separator) (decimal n ∷ []) ≡ false
unfolding is_blank
number_shows separator n small = grind (arith, common_steps, decimal_nonempty, no_zero)

pub number_is_shown : (separator n : ℕ) (fields : List (List ℕ)) → n < 2 ^ 64 → is_blank (writer_of separator) (fields ++ decimal n ∷ []) ≡ false
number_is_shown h1 h2 h3 h4 = grind (arith, common_steps, number_shows, later_shows)

-- ---- a field more

pub record WritesField (old new : Writer (Vec ℕ Global)) (separator : ℕ) (field : List ℕ) : Type 0 where
  pub text : Appends (text_written held old) (text_written held new) (next_sep (writer_of separator) (fields_written old) ++ field_text (writer_of separator) field)
  pub same : writer_setup new ≡ writer_of separator
  pub count : fields_written new ≡ min (fields_written old + 1) (2 ^ 64 - 1)
  pub wrote : has_written old ≡ false → has_written new ≡ not (length (field_text (writer_of separator) field) == 0)
  pub stays : has_written old ≡ true → has_written new ≡ true

grown : (before after : Option (List ℕ)) (text more whole : List ℕ) → before ≡ Some text → Appends before after more → text ++ more ≡ whole → after ≡ Some whole
grown h1 h2 h3 h4 h5 h6 h7 h8 = grind (arith, common_steps)

sep_at : (separator i : ℕ) (first : List ℕ) (fields : List (List ℕ)) → 0 < i → next_sep (writer_of separator) i ≡ sep_after (writer_of separator) (first ∷ fields)
sep_at separator i first fields some = ap (λ b. cond b [] (separator ∷ [])) (no_zero i some)

module _ (old new : Writer (Vec ℕ Global)) (separator : ℕ) (text : List ℕ) where
  longer : (fields : List (List ℕ)) (field : List ℕ) → HasFields old separator text fields → next_sep (writer_of separator) (fields_written old) ≡ sep_after (writer_of separator) fields
      → WritesField old new separator field → text_written held new ≡ Some (text ++ row_body (writer_of separator) (fields ++ field ∷ []))
  longer fields field has sep writes = grind (arith, common_steps, grown, append_assoc, row_body-push)

  counted_on : (field : List ℕ) → WritesField old new separator field → 0 < fields_written new
  counted_on field writes = let c = writes.count in omega (arith, c)

  pub with_field : (fields : List (List ℕ)) (field : List ℕ) → HasFields old separator text fields
      → is_blank (writer_of separator) (fields ++ field ∷ []) ≡ false → WritesField old new separator field → HasFields new separator text (fields ++ field ∷ [])
  unfolding is_blank
  with_field h1 h2 h3 h4 h5 = grind (arith, common_steps, longer, counted_on, sep_at)

pub still_some : (front back : List (List ℕ)) → front ≢ [] → front ++ back ≢ []
still_some [] back some = absurd (some refl)
still_some (first ∷ front) back some = λ e. cc

-- ---- the names of items

pub names_more : (names : List (List ℕ)) (items : List ℕ) (i : ℕ) → i < length items → names_of names (take (i + 1) items) ≡ names_of names (take i items) ++ slice_index_or names (get_or items i 0) [] ∷ []
names_more names items i below = grind (arith, common_steps)

pub name_is : (names : List (List ℕ)) (item : ℕ) (found : Option (Bor (List ℕ))) (none : Bor (List ℕ)) → none.now ≡ [] → option_map (λ name. name.now) found ≡ slice_get names item
    → (unwrap_or found none).now ≡ slice_index_or names item []
name_is [] item None none empty is = empty
name_is (name ∷ names) zero None none empty is = cc
name_is (name ∷ names) (suc item) None none empty is = name_is names item None none empty is
name_is [] item (Some found) none empty is = cc
name_is (name ∷ names) zero (Some found) none empty is = cc
name_is (name ∷ names) (suc item) (Some found) none empty is = name_is names item (Some found) none empty is
