-- The names in the fields of a record.
use Rattle.std.specs.Prelude.{◌≡◌, ◌<◌, ℕ, List, length}
use Rattle.basket_csv.specs.Csv.{field_in}
use Rattle.basket_csv.specs.Field.{trimmed}
use Rattle.basket_names.specs.Names.{IsKnown}

-- a field is a known name as it is, and this is the name's number
pub record IsKnownField (names : List (List ℕ)) (field : List ℕ) (number : ℕ) : Type 0 where
  pub known : IsKnown names field number
  pub trimmed : trimmed field ≡ field
  pub some : 0 < length field

-- the two fields of a record are a known id and a known name as they are, and these are their numbers
pub record IsKnownPair (ids names fields : List (List ℕ)) (index number : ℕ) : Type 0 where
  pub two : length fields ≡ 2
  pub id : IsKnownField ids (field_in fields 0) index
  pub name : IsKnownField names (field_in fields 1) number
