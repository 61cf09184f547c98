-- Values at the places of their pieces.
use Rattle.std.specs.Prelude.{◌≤◌, ℕ, zero, suc, ◌+◌, List, [], ◌∷◌, Option, Some, None, length, slice_set}
use Rattle.mine_round.specs.Lawful.{times, once_below}

-- the places after values were put there, each at its piece
abbrev pub placed : {X : Type 0} → List (Option X) → List (ℕ × X) → List (Option X)
placed places [] = places
placed places (value ∷ values) = placed (slice_set places value.0 (Some value.1)) values

-- 1 where the piece has a value, and else 0
abbrev pub filled : {X : Type 0} → List (Option X) → ℕ → ℕ
filled [] piece = 0
filled (None ∷ places) zero = 0
filled (Some value ∷ places) zero = 1
filled (place ∷ places) (suc piece) = filled places piece

-- each of these pieces stands there once and has a place, which is vacant
abbrev pub HaveRoom : {X : Type 0} → List (Option X) → List ℕ → Type 0
HaveRoom places pieces = (piece : ℕ) → times piece pieces + filled places piece ≤ once_below (length places) piece
