-- The conditional database of at most one other rank.
use Rattle.std.specs.Prelude.{ℕ, List, [], ◌∷◌}

-- the support of the first of some pairs, or 0
abbrev pub first_support : List (ℕ × ℕ) → ℕ
first_support [] = 0
first_support (pair ∷ pairs) = pair.1
