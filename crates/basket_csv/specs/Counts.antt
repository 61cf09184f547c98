-- What the records of a CSV text say that have a set and its count each: counted sets of names, or their first fault.
use Rattle.std.specs.Prelude.{◌≡◌, ℕ, ◌+◌, Bool, true, if◌then◌else◌, List, [], ◌∷◌, ◌++◌, map, drop, Option, Some, None, Result, Ok, unwrap_or, All}
use Rattle.basket_sets.specs.Database.{MOST_WEIGHT}
use Rattle.basket_sets.specs.Itemset.{AllBelow, renamed_set, rising}
use Rattle.basket_sets.specs.Number.{number_of}
use Rattle.basket_read.specs.declared.counted_line.CountedLine.{CountedLine}
use Rattle.basket_read.specs.declared.fault.ReadFault.{ReadFault}
use Rattle.basket_read.specs.declared.fault.ReadFault.TheVariants.{NotText, RecordCount}
use Rattle.basket_csv.specs.declared.counts.Counts.{Counts}
use Rattle.basket_csv.specs.declared.reading.Reading.{Reading}
use Rattle.basket_csv.specs.Csv.{field_in, is_text, first_number, names_of, all_names, bytes_say}
use Rattle.basket_csv.specs.Field.{trimmed}
use Rattle.basket_names.specs.Names.{in_order, number_in}

-- the count of a record: the number that its first field writes, from 0 to the greatest weight of a database
abbrev pub count_of : List (List ℕ) → Option ℕ
count_of row = number_of MOST_WEIGHT (trimmed (field_in row 0))

abbrev pub count_fault : ℕ → Option ℕ → Option ReadFault
count_fault nth None = Some (RecordCount nth)
count_fault nth (Some count) = None

-- the fault of a record
abbrev pub set_fault : ℕ → List (List ℕ) → Option ReadFault
set_fault nth row = if is_text row then count_fault nth (count_of row) else Some (NotText nth)

-- a record's set over these names, with its count and the record's number
abbrev pub line_of : List (List ℕ) → ℕ → List (List ℕ) → CountedLine
line_of names nth row = record { set = rising (map (number_in names) (names_of (drop 1 row))); count = unwrap_or (count_of row) 0; line = nth }

-- those of records of which the first has this number
abbrev pub lines_from : List (List ℕ) → ℕ → List (List (List ℕ)) → List CountedLine
lines_from names nth [] = []
lines_from names nth (row ∷ rows) = line_of names nth row ∷ lines_from names (nth + 1) rows

-- counted sets with the names of their items
abbrev pub NamedCounts : Type 0
NamedCounts = List CountedLine × List (List ℕ)

-- what records without a fault say, of which the first has this number, if some names are known
abbrev pub counts_said : ℕ → List (List ℕ) → List (List (List ℕ)) → Result NamedCounts ReadFault
counts_said nth known rows = let names = in_order (known ++ all_names true rows) in Ok (lines_from names nth rows, names)

-- what the bytes say
abbrev pub named_counts_of : ℕ → Bool → List (List ℕ) → List ℕ → Result NamedCounts ReadFault
named_counts_of separator header known bytes = bytes_say separator header set_fault (counts_said (first_number header) known) bytes

-- the lines with numbers, of which the first is this
abbrev pub numbered_from : ℕ → List CountedLine → List CountedLine
numbered_from nth [] = []
numbered_from nth (line ∷ lines) = record { set = line.set; count = line.count; line = nth } ∷ numbered_from (nth + 1) lines

-- a line whose items have other names
abbrev pub renamed_line : List ℕ → CountedLine → CountedLine
renamed_line names line = record { set = renamed_set names line.set; count = line.count; line = line.line }

-- the items of all lines are below a bound
abbrev pub AreBelow : ℕ → List CountedLine → Type 0
AreBelow bound lines = All (λ line. AllBelow bound line.set) lines

-- what has been read: the counted sets are those of these records, over these names, and no line has its number yet
pub record HasCounts (counts : Counts) (reading : Reading) (names : List (List ℕ)) (rows : List (List (List ℕ))) : Type 0 where
  pub header : counts.header ≡ reading.dialect.header
  pub lines : counts.lines.items ≡ map (line_of names 0) rows
