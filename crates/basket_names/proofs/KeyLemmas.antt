-- Names that are identified by their first and last bytes.
use Rattle.std.proofs.Common.{◌≡◌, ℕ, ◌+◌, ◌-◌, ◌≤◌, ◌<◌, List, ◌++◌, length, take, drop, arith}
use Rattle.std.proofs.lemmas.Grind.{common_steps}
use Rattle.std.specs.Int.{w32, w64, to_le_bytes}
use Rattle.std.proofs.lemmas.Bool.{le-leb, lt-leb}
use Rattle.basket_names.specs.Key.{name_with}

-- the two ends of a name, which leave out no byte between them
joined : (count : ℕ) (name front back : List ℕ) → length name ≤ count + count → front ≡ take count name → back ≡ drop (length name - count) name
    → take (length name - count) front ++ back ≡ name
joined count name front back short f b = grind (arith, common_steps)

pub eight_joined : (name : List ℕ) (front back : ℕ) → 8 ≤ length name → length name ≤ 16 → to_le_bytes w64 front ≡ take 8 name → to_le_bytes w64 back ≡ drop (length name - 8) name
    → name_with (length name) front back ≡ name
eight_joined name front back long short f b = grind (arith, common_steps, le-leb, joined)

pub four_joined : (name : List ℕ) (front back : ℕ) → 4 ≤ length name → length name < 8 → to_le_bytes w32 front ≡ take 4 name → to_le_bytes w32 back ≡ drop (length name - 4) name
    → name_with (length name) front back ≡ name
four_joined name front back long short f b = grind (arith, common_steps, lt-leb, le-leb, joined)
