-- A worked example: the nine baskets as ranks.
use Rattle.std.specs.Prelude.{List, [], ◌∷◌}
use Rattle.basket_sets.specs.declared.weighted.Weighted.{Weighted}
use Rattle.basket_sets.specs.declared.counted.Counted.{Counted}
use Rattle.basket_sets.specs.Worked.{each_once, set}

-- ranks 0 to 4 are the items 2, 1, 3, 4 and 5
abbrev pub nine_by_rank : List Weighted
nine_by_rank = each_once (
    (0 ∷ 1 ∷ 4 ∷ []) ∷ (0 ∷ 3 ∷ []) ∷ (0 ∷ 2 ∷ []) ∷ (0 ∷ 1 ∷ 3 ∷ []) ∷ (1 ∷ 2 ∷ []) ∷ (0 ∷ 2 ∷ [])
    ∷ (1 ∷ 2 ∷ []) ∷ (0 ∷ 1 ∷ 2 ∷ 4 ∷ []) ∷ (0 ∷ 1 ∷ 2 ∷ []) ∷ [])

-- the class of rank 4 at a minimum of 2
abbrev pub class_of_four : List Counted
class_of_four = set (4 ∷ []) 2 ∷ set (0 ∷ 4 ∷ []) 2 ∷ set (1 ∷ 4 ∷ []) 2 ∷ set (0 ∷ 1 ∷ 4 ∷ []) 2 ∷ []
