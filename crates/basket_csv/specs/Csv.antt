-- What the records of a CSV text say: baskets of names, or their first fault. A record is a list of fields, and a field a
-- list of bytes.
use Rattle.std.specs.Prelude.{ℕ, ◌+◌, Bool, not, nat_lt, if◌then◌else◌, List, [], ◌∷◌, ◌++◌, length, map, filter, fold, drop, slice_index_or, Option, Some, None, Result, Ok, Err, unwrap_or}
use Rattle.std.specs.List.{list_all, flat_map}
use Rattle.std.specs.Str.{is_utf8, bytes_eq}
use Rattle.basket_sets.specs.declared.weighted.Weighted.{Weighted}
use Rattle.basket_sets.specs.Number.{number_of}
use Rattle.basket_read.specs.declared.fault.ReadFault.{ReadFault}
use Rattle.basket_read.specs.declared.fault.ReadFault.TheVariants.{TooLong, NotText, ShortRecord, Weight}
use Rattle.basket_read.specs.Fimi.{is_nil, or_else, basket_of_numbers, if_light, MOST_NUMBER, MOST_BYTES}
use Rattle.basket_csv.specs.Field.{trimmed}
use Rattle.basket_names.specs.Names.{in_order, number_in}
use Rattle.basket_csv.specs.Records.{records_of}

-- ---- records

-- the field at an index, empty if the record has none
abbrev pub field_in : List (List ℕ) → ℕ → List ℕ
field_in row index = slice_index_or row index []

-- whether each field is UTF-8
abbrev pub is_text : List (List ℕ) → Bool
is_text row = list_all is_utf8 row

-- the records after the header, if there is one
abbrev pub after_header : Bool → List (List (List ℕ)) → List (List (List ℕ))
after_header header rows = if header then drop 1 rows else rows

-- the number of the first of these; the header is number 1
abbrev pub first_number : Bool → ℕ
first_number header = if header then 2 else 1

-- the fault of the first record that has one, if the first has this number
abbrev pub fault_from : (ℕ → List (List ℕ) → Option ReadFault) → ℕ → List (List (List ℕ)) → Option ReadFault
fault_from fault nth [] = None
fault_from fault nth (row ∷ rows) = or_else (fault nth row) (fault_from fault (nth + 1) rows)

-- what is said, unless there is a fault
abbrev pub if_faultless : {X : Type 0} → Option ReadFault → Result X ReadFault → Result X ReadFault
if_faultless (Some fault) said = Err fault
if_faultless None said = said

-- what the records of some bytes say, by the fault of each and by what records without a fault say
abbrev pub records_say : {X : Type 0} → ℕ → Bool → (ℕ → List (List ℕ) → Option ReadFault) → (List (List (List ℕ)) → Result X ReadFault) → List ℕ → Result X ReadFault
records_say separator header fault said bytes =
    let rows = after_header header (records_of separator bytes) in if_faultless (fault_from fault (first_number header) rows) (said rows)

-- what the bytes of an input say
abbrev pub bytes_say : {X : Type 0} → ℕ → Bool → (ℕ → List (List ℕ) → Option ReadFault) → (List (List (List ℕ)) → Result X ReadFault) → List ℕ → Result X ReadFault
bytes_say separator header fault said bytes = if nat_lt MOST_BYTES (length bytes) then Err TooLong else records_say separator header fault said bytes

-- ---- a basket in each record

-- the names among some fields: these trimmed, without the empty ones
abbrev pub names_of : List (List ℕ) → List (List ℕ)
names_of fields = filter (λ name. not (is_nil name)) (map trimmed fields)

-- how many fields of a record come before its names: that of the weight, if one is asked for
abbrev pub fields_before : Bool → ℕ
fields_before weighted = if weighted then 1 else 0

-- the names in a record
abbrev pub names_in : Bool → List (List ℕ) → List (List ℕ)
names_in weighted row = names_of (drop (fields_before weighted) row)

-- a number, if it is at least 1
abbrev pub positive : Option ℕ → Option ℕ
positive None = None
positive (Some number) = if nat_lt 0 number then Some number else None

-- the weight that a text writes: digits of a value from 1 to the greatest weight
abbrev pub weight_written : List ℕ → Option ℕ
weight_written text = positive (number_of MOST_NUMBER text)

-- the weight of a record: that in its first field, if one is asked for, else 1
abbrev pub weight_of : Bool → List (List ℕ) → Option ℕ
weight_of weighted row = if weighted then weight_written (trimmed (field_in row 0)) else Some 1

abbrev pub weight_fault : ℕ → Option ℕ → Option ReadFault
weight_fault nth None = Some (Weight nth)
weight_fault nth (Some weight) = None

-- the fault of a record
abbrev pub basket_fault : Bool → ℕ → List (List ℕ) → Option ReadFault
basket_fault weighted nth row = if is_text row then weight_fault nth (weight_of weighted row) else Some (NotText nth)

-- all names, one record after another
abbrev pub all_names : Bool → List (List (List ℕ)) → List (List ℕ)
all_names weighted rows = flat_map (names_in weighted) rows

-- a record's basket over these names, if it has a name
abbrev pub basket_of : Bool → List (List ℕ) → List (List ℕ) → List Weighted
basket_of weighted names row = basket_of_numbers (map (number_in names) (names_in weighted row)) (unwrap_or (weight_of weighted row) 1)

-- the baskets of all records, over the known names and those of the records in the order of their first appearance
abbrev pub baskets_in : Bool → List (List ℕ) → List (List (List ℕ)) → List Weighted
baskets_in weighted known rows = flat_map (basket_of weighted (in_order (known ++ all_names weighted rows))) rows

-- ---- what is read

-- baskets with the names of their items
abbrev pub Named : Type 0
Named = List Weighted × List (List ℕ)

-- baskets with names, if the baskets don't weigh too much
abbrev pub with_names : Result (List Weighted) ReadFault → List (List ℕ) → Result Named ReadFault
with_names (Ok baskets) names = Ok (baskets, names)
with_names (Err fault) names = Err fault

-- what records without a fault say, if each is a basket and some names are known
abbrev pub baskets_said : Bool → List (List ℕ) → List (List (List ℕ)) → Result Named ReadFault
baskets_said weighted known rows = with_names (if_light (baskets_in weighted known rows)) (in_order (known ++ all_names weighted rows))

-- what the bytes say, read with a separator, with or without a header and weights, if some names are known
abbrev pub baskets_of_csv : ℕ → Bool → Bool → List (List ℕ) → List ℕ → Result Named ReadFault
baskets_of_csv separator header weighted known bytes = bytes_say separator header (basket_fault weighted) (baskets_said weighted known) bytes

-- ---- a basket's id and a name in each record

-- the fault of a record
abbrev pub pair_fault : ℕ → List (List ℕ) → Option ReadFault
pair_fault nth row = if is_text row then (if nat_lt (length row) 2 then Some (ShortRecord nth) else None) else Some (NotText nth)

-- the id and the name in a record: its first two fields, trimmed
abbrev pub pair_of : List (List ℕ) → List ℕ × List ℕ
pair_of row = (trimmed (field_in row 0), trimmed (field_in row 1))

-- the pairs of the records that have a name
abbrev pub pairs_of : List (List (List ℕ)) → List (List ℕ × List ℕ)
pairs_of rows = filter (λ pair. not (is_nil pair.1)) (map pair_of rows)

-- some ids, each with its names, and one pair more: the name joins those of its id, which comes last if it is new
abbrev pub with_pair : List (List ℕ × List (List ℕ)) → List ℕ × List ℕ → List (List ℕ × List (List ℕ))
with_pair [] pair = (pair.0, pair.1 ∷ []) ∷ []
with_pair (group ∷ groups) pair = if bytes_eq pair.0 group.0 then (group.0, group.1 ++ pair.1 ∷ []) ∷ groups else group ∷ with_pair groups pair

-- the ids by first appearance, each with its names
abbrev pub gather : List (List ℕ × List ℕ) → List (List ℕ × List (List ℕ))
gather pairs = fold with_pair [] pairs

-- the known names and those of pairs in the order of their first appearance
abbrev pub names_of_pairs : List (List ℕ) → List (List ℕ × List ℕ) → List (List ℕ)
names_of_pairs known pairs = in_order (known ++ map (λ pair. pair.1) pairs)

-- a basket for each id
abbrev pub baskets_of_pairs : List (List ℕ) → List (List ℕ × List ℕ) → List Weighted
baskets_of_pairs known pairs = flat_map (λ group. basket_of_numbers (map (number_in (names_of_pairs known pairs)) group.1) 1) (gather pairs)

-- what pairs say, if some names are known
abbrev pub pairs_said : List (List ℕ) → List (List ℕ × List ℕ) → Result Named ReadFault
pairs_said known pairs = with_names (if_light (baskets_of_pairs known pairs)) (names_of_pairs known pairs)

-- what the bytes say
abbrev pub pairs_of_csv : ℕ → Bool → List (List ℕ) → List ℕ → Result Named ReadFault
pairs_of_csv separator header known bytes = bytes_say separator header pair_fault (λ rows. pairs_said known (pairs_of rows)) bytes
