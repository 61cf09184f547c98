-- A worked example: nine baskets over five items.
use Rattle.std.specs.Prelude.{ℕ, List, [], ◌∷◌, map}
use Rattle.basket_sets.specs.declared.weighted.Weighted.{Weighted}
use Rattle.basket_sets.specs.declared.counted.Counted.{Counted}

-- each basket once
abbrev pub each_once : List (List ℕ) → List Weighted
each_once baskets = map (λ basket. record { basket = basket; weight = 1 }) baskets

abbrev pub nine_baskets : List Weighted
nine_baskets = each_once (
    (1 ∷ 2 ∷ 5 ∷ []) ∷ (2 ∷ 4 ∷ []) ∷ (2 ∷ 3 ∷ []) ∷ (1 ∷ 2 ∷ 4 ∷ []) ∷ (1 ∷ 3 ∷ []) ∷ (2 ∷ 3 ∷ [])
    ∷ (1 ∷ 3 ∷ []) ∷ (1 ∷ 2 ∷ 3 ∷ 5 ∷ []) ∷ (1 ∷ 2 ∷ 3 ∷ []) ∷ [])

abbrev pub set : List ℕ → ℕ → Counted
set items count = record { set = items; count = count }

-- the six sets that have support 3 or more
abbrev pub six_sets : List Counted
six_sets = set (1 ∷ []) 6 ∷ set (2 ∷ []) 7 ∷ set (3 ∷ []) 6 ∷ set (1 ∷ 2 ∷ []) 4 ∷ set (1 ∷ 3 ∷ []) 4 ∷ set (2 ∷ 3 ∷ []) 4 ∷ []

-- the thirteen sets that have support 2 or more
abbrev pub thirteen_sets : List Counted
thirteen_sets =
    set (1 ∷ []) 6 ∷ set (2 ∷ []) 7 ∷ set (3 ∷ []) 6 ∷ set (4 ∷ []) 2 ∷ set (5 ∷ []) 2
    ∷ set (1 ∷ 2 ∷ []) 4 ∷ set (1 ∷ 3 ∷ []) 4 ∷ set (1 ∷ 5 ∷ []) 2 ∷ set (2 ∷ 3 ∷ []) 4 ∷ set (2 ∷ 4 ∷ []) 2 ∷ set (2 ∷ 5 ∷ []) 2
    ∷ set (1 ∷ 2 ∷ 3 ∷ []) 2 ∷ set (1 ∷ 2 ∷ 5 ∷ []) 2 ∷ []

-- a basket of weight 2 and one of weight 1, and their frequent sets at minimum 2
abbrev pub weighted_baskets : List Weighted
weighted_baskets = record { basket = 1 ∷ 2 ∷ []; weight = 2 } ∷ record { basket = 1 ∷ []; weight = 1 } ∷ []

abbrev pub weighted_sets : List Counted
weighted_sets = set (1 ∷ []) 3 ∷ set (2 ∷ []) 2 ∷ set (1 ∷ 2 ∷ []) 2 ∷ []
