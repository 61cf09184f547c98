-- Worked examples: nine baskets over five items, and weighted ones.
use Rattle.std.specs.Prelude.{ℕ, List, [], ◌∷◌}
use Rattle.basket_core.specs.Fraction.{Ratio}
use Rattle.basket_sets.specs.declared.weighted.Weighted.{Weighted}
use Rattle.basket_sets.specs.declared.counted.Counted.{Counted}
use Rattle.basket_sets.specs.Worked.{set}
use Rattle.basket_rules.specs.declared.association.Rule.{Rule}

-- of the thirteen sets that have support 2 or more, the nine that are closed and the three that are maximal
abbrev pub nine_closed : List Counted
nine_closed =
    set (1 ∷ []) 6 ∷ set (2 ∷ []) 7 ∷ set (3 ∷ []) 6 ∷ set (1 ∷ 2 ∷ []) 4 ∷ set (1 ∷ 3 ∷ []) 4 ∷ set (2 ∷ 3 ∷ []) 4 ∷ set (2 ∷ 4 ∷ []) 2
    ∷ set (1 ∷ 2 ∷ 3 ∷ []) 2 ∷ set (1 ∷ 2 ∷ 5 ∷ []) 2 ∷ []

abbrev pub three_maximal : List Counted
three_maximal = set (2 ∷ 4 ∷ []) 2 ∷ set (1 ∷ 2 ∷ 3 ∷ []) 2 ∷ set (1 ∷ 2 ∷ 5 ∷ []) 2 ∷ []

abbrev pub ratio : ℕ → ℕ → Ratio
ratio numerator denominator = record { numerator = numerator; denominator = denominator }

abbrev pub rule : List ℕ → List ℕ → ℕ → Ratio → Ratio → Rule
rule antecedent consequent count confidence lift = record { antecedent = antecedent; consequent = consequent; count = count; confidence = confidence; lift = lift }

-- the rules of the nine baskets at support 2 that have a confidence of 7/10 or more
abbrev pub six_rules : List Rule
six_rules =
    rule (5 ∷ []) (1 ∷ []) 2 (ratio 1 1) (ratio 3 2)
    ∷ rule (4 ∷ []) (2 ∷ []) 2 (ratio 1 1) (ratio 9 7)
    ∷ rule (5 ∷ []) (2 ∷ []) 2 (ratio 1 1) (ratio 9 7)
    ∷ rule (2 ∷ 5 ∷ []) (1 ∷ []) 2 (ratio 1 1) (ratio 3 2)
    ∷ rule (1 ∷ 5 ∷ []) (2 ∷ []) 2 (ratio 1 1) (ratio 9 7)
    ∷ rule (5 ∷ []) (1 ∷ 2 ∷ []) 2 (ratio 1 1) (ratio 9 4) ∷ []

-- those that have 2/3 or more: 4 of 6 is just enough
abbrev pub ten_rules : List Rule
ten_rules =
    rule (1 ∷ []) (2 ∷ []) 4 (ratio 2 3) (ratio 6 7)
    ∷ rule (3 ∷ []) (1 ∷ []) 4 (ratio 2 3) (ratio 1 1)
    ∷ rule (1 ∷ []) (3 ∷ []) 4 (ratio 2 3) (ratio 1 1)
    ∷ rule (5 ∷ []) (1 ∷ []) 2 (ratio 1 1) (ratio 3 2)
    ∷ rule (3 ∷ []) (2 ∷ []) 4 (ratio 2 3) (ratio 6 7)
    ∷ rule (4 ∷ []) (2 ∷ []) 2 (ratio 1 1) (ratio 9 7)
    ∷ rule (5 ∷ []) (2 ∷ []) 2 (ratio 1 1) (ratio 9 7)
    ∷ rule (2 ∷ 5 ∷ []) (1 ∷ []) 2 (ratio 1 1) (ratio 3 2)
    ∷ rule (1 ∷ 5 ∷ []) (2 ∷ []) 2 (ratio 1 1) (ratio 9 7)
    ∷ rule (5 ∷ []) (1 ∷ 2 ∷ []) 2 (ratio 1 1) (ratio 9 4) ∷ []

-- a basket of weight 3 and one of weight 1, and their rules that have a confidence of 3/4 or more
abbrev pub weighted_baskets : List Weighted
weighted_baskets = record { basket = 1 ∷ 2 ∷ []; weight = 3 } ∷ record { basket = 1 ∷ []; weight = 1 } ∷ []

abbrev pub weighted_rules : List Rule
weighted_rules = rule (2 ∷ []) (1 ∷ []) 3 (ratio 1 1) (ratio 1 1) ∷ rule (1 ∷ []) (2 ∷ []) 3 (ratio 3 4) (ratio 1 1) ∷ []
