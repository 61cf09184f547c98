-- What a name is looked up by.
use Rattle.std.specs.Prelude.{◌≡◌, ◌≤◌, ℕ, ◌-◌, nat_le, if◌then◌else◌, List, [], ◌∷◌, ◌++◌, take}
use Rattle.std.specs.Int.{w16, w32, w64, to_le_bytes}
use Rattle.basket_names.specs.declared.key.Key.{Key}
use Rattle.basket_names.specs.declared.key.TheConstants.{WHOLE}

-- the name of a length whose first and last bytes, as many as fit, are these numbers, the lowest byte first
abbrev pub name_with : ℕ → ℕ → ℕ → List ℕ
name_with len front back =
    if nat_le 8 len then take (len - 8) (to_le_bytes w64 front) ++ to_le_bytes w64 back
    else if nat_le 4 len then take (len - 4) (to_le_bytes w32 front) ++ to_le_bytes w32 back
    else if nat_le 2 len then take (len - 2) (to_le_bytes w16 front) ++ to_le_bytes w16 back
    else take len (front ∷ [])

-- a key distinguishes this name from all others, if the name is not too long
abbrev pub IsKeyOf : Key → List ℕ → Type 0
IsKeyOf key name = key.len ≤ WHOLE → name_with key.len key.front key.back ≡ name
