-- CSV records of names, as `csv` writes them.
use Rattle.std.specs.Prelude.{◌≡◌, ◌<◌, ℕ, true, false, List, [], ◌∷◌, ◌++◌, Option, Some, decimal, length, map, slice_index_or}
use Rattle.std.specs.declared.alloc.Global.{Global}
use Rattle.std.specs.declared.vec.Vec.{Vec}
use Rattle.csv.specs.Writing.{default_writer, fields_written, has_written, is_blank, row_body, row_text, text_written, writer_setup}
use Rattle.csv.specs.declared.writer.Writer.{Writer}
use Rattle.csv.specs.declared.writer.WriterBuilder.{WriterBuilder}
use Rattle.basket_sets.specs.declared.counted.Counted.{Counted}
use Rattle.basket_rules.specs.declared.association.Rule.{Rule}
use Rattle.basket_report.specs.declared.table.Table.{Table}
use Rattle.basket_report.specs.Texts.{ratio_text}

-- how `csv` writes records of any length with a byte between fields
abbrev pub writer_of : ℕ → WriterBuilder
writer_of separator = record default_writer { delimiter = separator; flexible = true }

-- the names of some items, where each name stands at its number
abbrev pub names_of : List (List ℕ) → List ℕ → List (List ℕ)
names_of names items = map (λ item. slice_index_or names item []) items

-- the fields of a set: the count, then the names
abbrev pub set_fields : List (List ℕ) → Counted → List (List ℕ)
set_fields names counted = decimal counted.count ∷ names_of names counted.set

-- the fields of a rule: the count, the confidence, the lift, how many names its antecedent has, those names, and the names of its consequent
abbrev pub rule_fields : List (List ℕ) → Rule → List (List ℕ)
rule_fields names rule =
    decimal rule.count ∷ ratio_text rule.confidence ∷ ratio_text rule.lift ∷ decimal (length rule.antecedent) ∷ names_of names rule.antecedent ++ names_of names rule.consequent

-- the record of a set, and that of a rule
abbrev pub set_record : ℕ → List (List ℕ) → Counted → List ℕ
set_record separator names counted = row_text (writer_of separator) (set_fields names counted)

abbrev pub rule_record : ℕ → List (List ℕ) → Rule → List ℕ
rule_record separator names rule = row_text (writer_of separator) (rule_fields names rule)

-- ---- a table that is being written

-- what the vector below a writer holds
abbrev pub held : Vec ℕ Global → Option (List ℕ)
held vector = Some vector.items

-- the writer has written so many fields of a record, of which the first shows
abbrev pub HasShown : Writer (Vec ℕ Global) → ℕ → List (List ℕ) → Type 0
HasShown writer separator [] = (fields_written writer ≡ 0) × (has_written writer ≡ false)
HasShown writer separator (field ∷ fields) = (0 < fields_written writer) × (has_written writer ≡ true) × (is_blank (writer_of separator) (field ∷ fields) ≡ false)

-- the writer has written this text, and some fields of one record more
pub record HasFields (writer : Writer (Vec ℕ Global)) (separator : ℕ) (text : List ℕ) (fields : List (List ℕ)) : Type 0 where
  pub setup : writer_setup writer ≡ writer_of separator
  pub written : text_written held writer ≡ Some (text ++ row_body (writer_of separator) fields)
  pub shown : HasShown writer separator fields

-- the table writes these names, and has this text
abbrev pub HasText : Table → ℕ → List (List ℕ) → List ℕ → Type 0
HasText table separator names text = (table.names.now ≡ names) × HasFields table.writer separator text []
