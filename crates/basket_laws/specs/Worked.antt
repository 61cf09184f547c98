-- A worked example: nine baskets in two parts, counted apart.
use Rattle.std.specs.Prelude.{ℕ, List, [], ◌∷◌, drop, take}
use Rattle.basket_read.specs.declared.counted_line.CountedLine.{CountedLine}
use Rattle.basket_sets.specs.declared.weighted.Weighted.{Weighted}
use Rattle.basket_sets.specs.Worked.{nine_baskets}

-- the first four baskets, and the other five
abbrev pub two_parts : List (List Weighted)
two_parts = take 4 nine_baskets ∷ drop 4 nine_baskets ∷ []

-- the sets that are counted: three items and their pairs
abbrev pub asked_sets : List (List ℕ)
asked_sets = (1 ∷ []) ∷ (2 ∷ []) ∷ (3 ∷ []) ∷ (1 ∷ 2 ∷ []) ∷ (1 ∷ 3 ∷ []) ∷ (2 ∷ 3 ∷ []) ∷ []

abbrev line : List ℕ → ℕ → ℕ → CountedLine
line set count number = record { set = set; count = count; line = number }

-- the counts of the first part, and after them those of the other
abbrev pub two_lists : List CountedLine
two_lists =
    line [] 4 1 ∷ line (1 ∷ []) 2 2 ∷ line (2 ∷ []) 4 3 ∷ line (3 ∷ []) 1 4 ∷ line (1 ∷ 2 ∷ []) 2 5 ∷ line (1 ∷ 3 ∷ []) 0 6 ∷ line (2 ∷ 3 ∷ []) 1 7
    ∷ line [] 5 8 ∷ line (1 ∷ []) 4 9 ∷ line (2 ∷ []) 3 10 ∷ line (3 ∷ []) 5 11 ∷ line (1 ∷ 2 ∷ []) 2 12 ∷ line (1 ∷ 3 ∷ []) 4 13 ∷ line (2 ∷ 3 ∷ []) 3 14 ∷ []
