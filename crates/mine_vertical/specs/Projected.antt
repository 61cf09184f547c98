-- The extensions of a set, as a search sees them.
use Rattle.std.specs.Prelude.{◌≡◌, ◌≤◌, ◌<◌, ◌++◌, ℕ, List, ◌∷◌, length, map, take}
use Rattle.std.specs.List.{HoldsAt}
use Rattle.basket_ranks.specs.Codes.{MOST_RANKS}
use Rattle.basket_sets.specs.Counts.{AllBelow}
use Rattle.basket_sets.specs.Itemset.{IsRising}
use Rattle.basket_sets.specs.Support.{support_of}
use Rattle.mine_rows.specs.declared.marks.Marks.{Marks}
use Rattle.mine_search.specs.Node.{Node, is_met, kept}
use Rattle.mine_search.specs.Walk.{kept_below}
use Rattle.mine_vertical.specs.declared.siblings.Siblings.{Siblings}
use Rattle.mine_vertical.specs.declared.joins.Sibling.{Sibling}
use Rattle.mine_vertical.specs.declared.search_scratch.SearchScratch.{SearchScratch}
use Rattle.mine_vertical.specs.LocalBaskets.{baskets_in, named}
use Rattle.mine_vertical.specs.Siblings.{AreSiblings}

-- the siblings that are kept, their numbers, and the ranks of these
abbrev pub siblings_in : {R : Type 0} → Siblings R → List (Sibling R)
siblings_in base = take base.kept base.list.items

abbrev pub numbers_in : {R : Type 0} → Siblings R → List ℕ
numbers_in base = map (λ sibling. sibling.number) (siblings_in base)

abbrev pub ranks_in : {R : Type 0} → Siblings R → List ℕ
ranks_in base = named base.local.value.ranks.items (numbers_in base)

-- a node of a search whose work is joins: each rank is joined with the lower ones with which the others are frequent
pub record IsJoined (items : List ℕ) (least : ℕ) (node : Node) : Type 0 where
  pub least_is : node.over.least ≡ least
  pub items_are : node.over.items ≡ items
  pub few : length items < MOST_RANKS
  pub within : node.below ≤ length items
  pub falls : (rank other : ℕ) (others : List ℕ) → node.over.support (other ∷ rank ∷ others) ≤ node.over.support (other ∷ others)
  pub works : (rank : ℕ) (others : List ℕ) → node.over.work (rank ∷ others) ≡ length (kept_below (is_met node.over) rank others)

-- the siblings are the extensions of a node's set, over baskets in which a set stands for the node's: each set of numbers has there the support that its ranks have with the node's set
pub record AreExtensions {R : Type 0} (stands : List ℕ → List ℕ → List ℕ → R → Type 0) (base : Siblings R) (node : Node) (set : List ℕ) : Type 0 where
  pub joined : IsJoined base.coded.now.items base.least node
  pub siblings : AreSiblings stands base.local.value (siblings_in base) set
  pub rises : IsRising (numbers_in base)
  pub low : AllBelow (length base.local.value.ranks.items) (numbers_in base)
  pub ranks : ranks_in base ≡ kept node
  pub supports : (numbers : List ℕ) → AllBelow (length base.local.value.ranks.items) numbers
      → node.over.support (named base.local.value.ranks.items numbers ++ node.set) ≡ support_of (baskets_in base.local.value) (numbers ++ set)

abbrev pub Extend : {R : Type 0} → (List ℕ → List ℕ → List ℕ → R → Type 0) → Siblings R → Node → Type 0
Extend stands base node = (set : List ℕ) × AreExtensions stands base node set

-- the marks at an index of the scratch are at rest over weights
abbrev pub AreAtRest : {R : Type 0} → (List ℕ → Marks → Type 0) → SearchScratch R → ℕ → List ℕ → Type 0
AreAtRest at_rest scratch index weights = (index < length scratch.marks.items) × HoldsAt (at_rest weights) scratch.marks.items index

-- the scratch serves extensions: its marks at their index are at rest over their weights
abbrev pub Serves : {R : Type 0} → (List ℕ → Marks → Type 0) → SearchScratch R → Siblings R → Type 0
Serves at_rest scratch base = AreAtRest at_rest scratch base.marks base.local.value.weights

-- the scratch keeps what is at rest before their index, and serves them if it did
pub record Keeps {R : Type 0} (at_rest : List ℕ → Marks → Type 0) (base : Siblings R) (before after : SearchScratch R) : Type 0 where
  pub outer : (index : ℕ) (weights : List ℕ) → index < base.marks → AreAtRest at_rest before index weights → AreAtRest at_rest after index weights
  pub own : Serves at_rest before base → Serves at_rest after base
