-- A set of ranks, and the ranks that may extend it.
use Rattle.std.specs.Prelude.{ℕ, Bool, List, ◌∷◌, nat_le}
use Rattle.mine_search.specs.Walk.{kept_below, sets_below, work_below}

-- the support of each set of ranks, the least support of a frequent set, the item of each rank, and the work that each set takes
pub record Supports : Type 0 where
  pub support : List ℕ → ℕ
  pub least : ℕ
  pub items : List ℕ
  pub work : List ℕ → ℕ

-- a set of ranks, which ranks below a number may extend
pub record Node : Type 0 where
  pub over : Supports
  pub set : List ℕ
  pub below : ℕ

-- whether a set is frequent
abbrev pub is_met : Supports → List ℕ → Bool
is_met over set = nat_le over.least (over.support set)

-- the ranks with which the set is frequent
abbrev pub kept : Node → List ℕ
kept node = kept_below (is_met node.over) node.below node.set

-- the node of the set with one more rank
abbrev pub child : Node → ℕ → Node
child node rank = record { over = node.over; set = rank ∷ node.set; below = rank }

-- the frequent sets that extend the set, and the work that finds them
abbrev pub sets_at : Node → List (List ℕ)
sets_at node = sets_below (is_met node.over) node.below node.set

abbrev pub work_at : Node → ℕ
work_at node = work_below node.over.work (is_met node.over) node.below node.set
