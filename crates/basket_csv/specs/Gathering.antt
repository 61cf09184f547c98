-- What is gathered of the records of a text, with their names.
use Rattle.std.specs.Prelude.{◌≡◌, ℕ, Bool, IsTrue, List, ◌++◌, map}
use Rattle.std.specs.List.{flat_map}
use Rattle.basket_names.specs.Names.{are_among, in_order, number_in}
use Rattle.basket_csv.specs.declared.gathering.Named.{Named}
use Rattle.basket_csv.specs.declared.reading.Reading.{Reading}
use Rattle.basket_csv.specs.Rows.{Rows}

-- these are the records that were read, and the names are those that are known and theirs
pub record HasRead {G : Type 0} (has : G → Reading → List (List ℕ) → Rows → Type 0) (names_of : Bool → List (List ℕ) → List (List ℕ)) (reading : Reading) (known : List (List ℕ)) (named : Named G) (rows : Rows) : Type 0 where
  pub names : named.names ≡ in_order (known ++ flat_map (names_of reading.weighted) rows)
  pub gathered : has named.gathered reading named.names rows

-- this was gathered over the names of the records alone, which are among all and have these numbers there
pub record IsRenaming {G : Type 0} (has : G → Reading → List (List ℕ) → Rows → Type 0) (names_of : Bool → List (List ℕ) → List (List ℕ)) (reading : Reading) (gathered : G) (numbers : List ℕ) (all : List (List ℕ)) (rows : Rows) : Type 0 where
  pub gathered_alone : has gathered reading (in_order (flat_map (names_of reading.weighted) rows)) rows
  pub among : IsTrue (are_among all (in_order (flat_map (names_of reading.weighted) rows)))
  pub numbered : numbers ≡ map (number_in all) (in_order (flat_map (names_of reading.weighted) rows))
