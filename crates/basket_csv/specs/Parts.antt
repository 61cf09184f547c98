-- Texts that are cut, and the records of their parts.
use Rattle.std.specs.Prelude.{◌≡◌, ◌⊎◌, ℕ, Bool, List, [], ◌++◌}
use Rattle.csv.specs.Reading.{strip_bom}
use Rattle.basket_csv.specs.Csv.{after_header}
use Rattle.basket_csv.specs.Record.{last_after}
use Rattle.basket_csv.specs.Records.{records_of}

-- a text may be cut between these: nothing or a line feed stands before the cut and no mark behind it, or nothing stands behind it
abbrev pub IsCut : List ℕ → List ℕ → Type 0
IsCut before after = (after ≡ []) ⊎ ((last_after 10 before ≡ 10) × (strip_bom after ≡ after))

-- whatever follows the part, the records of both together are those of the part and those of what follows
abbrev pub IsWhole : ℕ → Bool → List ℕ → Type 0
IsWhole separator header part =
    (more : List ℕ) → IsCut part more → after_header header (records_of separator (part ++ more)) ≡ after_header header (records_of separator part) ++ records_of separator more
