-- The class of a rank of coded baskets.
use Rattle.std.specs.Prelude.{◌≡◌, ◌≤◌, ℕ, List, [], ◌∷◌, Option, Some, None}
use Rattle.basket_ranks.specs.Codes.{Coding, IsCoding}
use Rattle.basket_sets.specs.Minimum.{IsLeastSupport}
use Rattle.basket_sets.specs.Support.{support_of, total_of}
use Rattle.mine_search.specs.Node.{Node, Supports, is_met, kept}
use Rattle.mine_search.specs.Walk.{sets_below}

-- the supports of sets of ranks in coded baskets, with the work for each set
pub record IsOver (coding : Coding) (over : Supports) : Type 0 where
  pub known : IsCoding coding
  pub supports : (set : List ℕ) → over.support set ≡ support_of coding.baskets set
  pub least : IsLeastSupport coding.minimum (total_of coding.baskets) over.least
  pub items : over.items ≡ coding.items

-- the node of a rank alone
abbrev pub of_rank : Supports → ℕ → Node
of_rank over rank = record { over = over; set = rank ∷ []; below = rank }

-- a frequent rank with its support, and its conditional database unless no rank is frequent there
pub record IsClass {P : Type 0} (gives : P → Node → Type 0) (coding : Coding) (rank support : ℕ) (below : Option P) (over : Supports) : Type 0 where
  pub over_coding : IsOver coding over
  pub supported : support ≡ over.support (rank ∷ [])
  pub frequent : over.least ≤ support
  pub some : (inner : P) → below ≡ Some inner → gives inner (of_rank over rank)
  pub none : below ≡ None → kept (of_rank over rank) ≡ []

-- the class as a search lists it
abbrev pub class_sets : Supports → ℕ → List (List ℕ)
class_sets over rank = (rank ∷ []) ∷ sets_below (is_met over) rank (rank ∷ [])
