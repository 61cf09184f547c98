-- The records of a CSV text.
use Rattle.std.specs.Prelude.{◌≡◌, ℕ, ◌+◌, Bool, true, false, List, [], length, fold, map, Option, Some, unwrap_or, ⊤}
use Rattle.std.specs.Borrow.{Bor}
use Rattle.csv.specs.Machine.{ends_at_end}
use Rattle.csv.specs.Reading.{Ready, source_of, records, records_from, strip_bom, is_flexible, reader_config, reader_state, reader_trim}
use Rattle.csv.specs.Records.{fields_of as copied_fields}
use Rattle.csv.specs.declared.reader.Reader.{Reader}
use Rattle.csv.specs.declared.reader.Trim.TheVariants as trim
use Rattle.basket_csv.specs.Record.{config_of, may_go_on}
use Rattle.basket_csv.specs.declared.records.Records.{Records}
use Rattle.basket_csv.specs.declared.records.Source.{Source}
use Rattle.basket_csv.specs.declared.records.Source.TheVariants as by

-- the records that `csv` gives for the bytes, each a list of fields: it takes one byte order mark away at their start
abbrev pub records_of : ℕ → List ℕ → List (List (List ℕ))
records_of separator bytes = records (config_of separator) (strip_bom bytes)

-- whether the last of some records may go on after the text, and if there is none what was so before
abbrev pub last_may_go_on : Bool → List (List (List ℕ)) → Bool
last_may_go_on before rows = fold (λ _ row. may_go_on row) before rows

-- the bytes that a reader has not read yet, if they are known
abbrev pub known_by : Reader (Bor (List ℕ)) → Option (List ℕ)
known_by reader = source_of (λ s. Some s.now) reader

abbrev pub bytes_by : Reader (Bor (List ℕ)) → List ℕ
bytes_by reader = unwrap_or (known_by reader) []

-- the records that a reader has not read yet
abbrev pub rows_by : Reader (Bor (List ℕ)) → List (List (List ℕ))
rows_by reader = records_from (reader_config reader) (length (bytes_by reader) + 1) (reader_state reader) (bytes_by reader)

-- a reader of records of any lengths that is between two of them
pub record IsReadingBy (reader : Reader (Bor (List ℕ))) : Type 0 where
  pub flexible : is_flexible reader ≡ true
  pub trim : reader_trim reader ≡ trim.None
  pub ready : Ready reader
  pub begins : ends_at_end (reader_state reader) ≡ false
  pub known : known_by reader ≡ Some (bytes_by reader)

-- whether records can be read
abbrev pub IsReadingFrom : Source → Type 0
IsReadingFrom (by.Text plain) = ⊤
IsReadingFrom (by.Reader quoted) = IsReadingBy quoted.reader

abbrev pub IsReading : Records → Type 0
IsReading r = IsReadingFrom r.source

-- the records that are not read yet
abbrev pub left_in : ℕ → Source → List (List (List ℕ))
left_in separator (by.Text plain) = records_of separator plain.left.now
left_in separator (by.Reader quoted) = rows_by quoted.reader

abbrev pub records_left : Records → List (List (List ℕ))
records_left r = left_in r.separator r.source

-- the record that was read last
abbrev pub read_from : Source → List (List ℕ)
read_from (by.Text plain) = map (λ field. field.now) plain.fields.items
read_from (by.Reader quoted) = copied_fields quoted.row

abbrev pub record_read : Records → List (List ℕ)
record_read r = read_from r.source

-- whether it may go on after the bytes, as one that was taken from the text never does
abbrev pub goes_on_in : Source → Bool
goes_on_in (by.Text plain) = false
goes_on_in (by.Reader quoted) = quoted.goes_on

abbrev pub goes_on : Records → Bool
goes_on r = goes_on_in r.source
