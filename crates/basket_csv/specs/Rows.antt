-- The records of a text, and those of parts of it.
use Rattle.std.specs.Prelude.{◌≡◌, ℕ, List, [], ◌∷◌, ◌++◌}

-- records, each a list of fields
abbrev pub Rows : Type 0
Rows = List (List (List ℕ))

-- things in a row have these records: the first has the first of them, and so on
abbrev pub InParts : {A : Type 0} → (A → Rows → Type 0) → List A → Rows → Type 0
InParts has [] rows = rows ≡ []
InParts has (part ∷ parts) rows = (own : Rows) × (later : Rows) × (rows ≡ own ++ later) × has part own × InParts has parts later
