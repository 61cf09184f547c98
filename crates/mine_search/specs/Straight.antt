-- Single branches.
use Rattle.std.specs.Prelude.{◌≡◌, ◌<◌, ◌++◌, ◌-◌, ℕ, IsTrue, List, ◌∷◌, drop, take}
use Rattle.basket_sets.specs.declared.counted.Counted.{Counted}
use Rattle.basket_sets.specs.Itemset.{has, with_item}
use Rattle.mine_search.specs.Node.{Node, is_met, work_at}

-- a set of ranks has the support of its greatest one, if the set is frequent with each rank alone; and no work is counted below
pub record IsStraight (node : Node) : Type 0 where
  pub supports : (rank : ℕ) (front : List ℕ) → rank < node.below → IsTrue (is_met node.over (rank ∷ node.set))
      → ((other : ℕ) → IsTrue (has front other) → (other < rank) × IsTrue (is_met node.over (other ∷ node.set)))
      → node.over.support (front ++ rank ∷ node.set) ≡ node.over.support (rank ∷ node.set)
  pub free : work_at node ≡ 0

-- a set that was found, with one more item and another count
abbrev pub chosen : ℕ → ℕ → Counted → Counted
chosen item support c = record { set = with_item item c.set; count = support }

-- the sets between two indexes of a list
abbrev pub between : ℕ → ℕ → List Counted → List Counted
between start end sets = take (end - start) (drop start sets)
