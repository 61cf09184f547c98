-- A record of a CSV text: how `csv` reads it, and where its fields are.
use Rattle.std.specs.Prelude.{◌≡◌, ℕ, Bool, false, List, [], ◌∷◌, ⊤, map, fold}
use Rattle.csv.specs.Reading.{default_config, records, strip_bom}
use Rattle.csv.specs.Records.{fields_of as copied_fields}
use Rattle.csv.specs.declared.parser.Config.{Config}
use Rattle.basket_csv.specs.declared.record.Record.{Record}
use Rattle.basket_csv.specs.declared.record.Record.TheVariants.{Taken, Copied}
use Rattle.basket_csv.specs.Field.{is_line_end}
use Rattle.basket_read.specs.Fimi.{is_line_feed}

abbrev pub fields_of : Record → List (List ℕ)
fields_of (Taken fields) = map (λ field. field.now) fields.now
fields_of (Copied copies) = copied_fields copies.now

-- how `csv` reads with a separator
abbrev pub config_of : ℕ → Config
config_of separator = record default_config { delimiter = separator }

-- the last of a list, and of an empty one what stands before it
abbrev pub last_after : {X : Type 0} → X → List X → X
last_after before xs = fold (λ _ x. x) before xs

-- whether a record may go on after a text that ends with a line feed: its last field does too
abbrev pub may_go_on : List (List ℕ) → Bool
may_go_on row = is_line_feed (last_after 0 (last_after [] row))

-- a record begins the text, if it has a byte
abbrev pub Begins : List ℕ → Type 0
Begins [] = ⊤
Begins (byte ∷ rest) = is_line_end byte ≡ false

-- the first record of a text has these fields and ends there, and the others are those of what is left, which no mark begins
pub record Takes (separator : ℕ) (text : List ℕ) (fields : List (List ℕ)) (left : List ℕ) : Type 0 where
  pub rows : records (config_of separator) text ≡ fields ∷ records (config_of separator) left
  pub whole : may_go_on fields ≡ false
  pub unmarked : strip_bom left ≡ left
