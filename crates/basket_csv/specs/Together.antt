-- Parts whose names are numbered together.
use Rattle.std.specs.Prelude.{◌≡◌, ℕ, Bool, List, [], Vec, Result, IfOk, fold}
use Rattle.std.specs.List.{flat_map}
use Rattle.basket_names.specs.Names.{with_name}
use Rattle.basket_csv.specs.declared.gathering.Named.{Named}
use Rattle.basket_csv.specs.declared.reading.Reading.{Reading}
use Rattle.basket_csv.specs.declared.together.Renumbered.{Renumbered}
use Rattle.basket_csv.specs.Gathering.{HasRead, IsRenaming}
use Rattle.basket_csv.specs.Rows.{InParts, Rows}

module _ {G : Type 0} (has : G → Reading → List (List ℕ) → Rows → Type 0) (names_of : Bool → List (List ℕ) → List (List ℕ)) (reading : Reading) where
  -- the part has these records, over names of its own that have these numbers among some names
  abbrev pub IsNumbered : List (List ℕ) → Renumbered G → Rows → Type 0
  IsNumbered names part rows = IsRenaming has names_of reading part.gathered part.numbers.items names rows

  -- the names are those that are known and those of the records, and the parts, which have the records, have the numbers of
  -- theirs among them
  pub record AreTogether (known names : List (List ℕ)) (parts : List (Renumbered G)) (rows : Rows) : Type 0 where
    pub together : names ≡ fold with_name known (flat_map (names_of reading.weighted) rows)
    pub each : InParts (IsNumbered names) parts rows

  -- parts in a row have some records
  abbrev pub HaveParts : List (Named G) → Type 0
  HaveParts parts = (rows : Rows) × InParts (HasRead has names_of reading []) parts rows

  -- the names of the parts are numbered together
  abbrev pub NumbersTogether : {A E : Type 0} → List (Named G) → Result (List (List ℕ) × Vec (Renumbered G) A) E → Type 0
  NumbersTogether parts result = (rows : Rows) → InParts (HasRead has names_of reading []) parts rows → IfOk result (λ all. AreTogether [] all.0 all.1.items rows)
