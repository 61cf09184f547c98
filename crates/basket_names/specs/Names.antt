-- Names, and their numbers by first appearance.
use Rattle.std.specs.Prelude.{◌≡◌, ℕ, Bool, true, List, [], ◌∷◌, ◌++◌, fold, if◌then◌else◌}
use Rattle.std.specs.List.{list_all, list_any, position_or_len}
use Rattle.std.specs.Str.{bytes_eq, is_utf8}

-- whether a name is among some names
abbrev pub is_among : List (List ℕ) → List ℕ → Bool
is_among names name = list_any (bytes_eq name) names

-- whether each name of a set is among some names
abbrev pub are_among : List (List ℕ) → List (List ℕ) → Bool
are_among names set = list_all (is_among names) set

-- the names with one more, unless it is among them
abbrev pub with_name : List (List ℕ) → List ℕ → List (List ℕ)
with_name names name = if is_among names name then names else names ++ name ∷ []

-- each name of a list once, by first appearance
abbrev pub in_order : List (List ℕ) → List (List ℕ)
in_order names = fold with_name [] names

-- the number of a name: its index, from 0
abbrev pub number_in : List (List ℕ) → List ℕ → ℕ
number_in names name = position_or_len (bytes_eq name) names

-- a name is among the names, of which each is UTF-8, and this is its number
pub record IsKnown (names : List (List ℕ)) (name : List ℕ) (number : ℕ) : Type 0 where
  pub text : is_utf8 name ≡ true
  pub stay : names ≡ with_name names name
  pub index : number ≡ number_in names name
