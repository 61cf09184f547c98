-- The conditional pattern base of a set.
use Rattle.std.specs.Prelude.{◌≡◌, ◌≤◌, ◌<◌, ◌++◌, ℕ, IsTrue, List, ◌∷◌, if◌then◌else◌, length, map, slice_index_or}
use Rattle.basket_ranks.specs.Codes.{Coding, IsCoding}
use Rattle.basket_sets.specs.Counts.{AllBelow}
use Rattle.basket_sets.specs.Itemset.{IsRising, has}
use Rattle.basket_sets.specs.Minimum.{IsLeastSupport}
use Rattle.basket_sets.specs.Support.{support_of, total_of}
use Rattle.mine_baskets.specs.ListBaskets.{AreRankBaskets}
use Rattle.mine_conditional.specs.declared.scratch.ClassScratch.{ClassScratch}
use Rattle.mine_pairs.specs.Pairs.{named_pair, pairs_of}
use Rattle.mine_conditional.specs.Paths.{IsConditional}
use Rattle.mine_fp.specs.declared.pattern_base.PatternBase.{PatternBase}
use Rattle.mine_fp.specs.Trees.{has_tree}
use Rattle.mine_search.specs.Node.{Node, Supports, is_met, kept}

-- the supports of sets of ranks in coded baskets, and how many trees are made for each set
abbrev pub supports_in : Coding → ℕ → Supports
supports_in coding least =
    record { support = support_of coding.baskets; least = least; items = coding.items; work = λ set. if has_tree coding.baskets coding.minimum set then 1 else 0 }

-- the rank of each number
abbrev pub ranks_of : PatternBase → List ℕ
ranks_of base = map (λ rank. rank.0) base.ranks.items

-- the ranks of some numbers
abbrev pub named : List ℕ → List ℕ → List ℕ
named ranks numbers = map (λ number. slice_index_or ranks number 0) numbers

-- the paths have a number for each rank that is frequent together with a node's set, perhaps for more, and give each set of them its support with the node's set
pub record IsNumbered (base : PatternBase) (node : Node) : Type 0 where
  pub over : node.over ≡ supports_in base.coded.now base.least
  pub coding : IsCoding base.coded.now
  pub least : IsLeastSupport base.coded.now.minimum (total_of base.coded.now.baskets) base.least
  pub ranked : AreRankBaskets base.paths
  pub long : length (ranks_of base) ≡ base.paths.ranks
  pub rises : IsRising (ranks_of base)
  pub low : AllBelow node.below (ranks_of base)
  pub known : node.below ≤ length base.coded.now.items
  pub all : (rank : ℕ) → rank < node.below → IsTrue (is_met node.over (rank ∷ node.set)) → IsTrue (has (ranks_of base) rank)
  pub supports : (numbers : List ℕ) → AllBelow base.paths.ranks numbers → support_of base.coded.now.baskets (named (ranks_of base) numbers ++ node.set) ≡ support_of base.paths.baskets numbers

-- the pattern base of a node's set, for which a tree is made
pub record IsBase (base : PatternBase) (node : Node) : Type 0 where
  pub numbered : IsNumbered base node
  pub ranks : ranks_of base ≡ kept node
  pub supports : map (λ rank. rank.1) base.ranks.items ≡ map (λ rank. support_of base.coded.now.baskets (rank ∷ node.set)) (kept node)
  pub first : (others : List ℕ) × (node.set ≡ node.below ∷ others)
  pub tree : IsTrue (has_tree base.coded.now.baskets base.coded.now.minimum node.set)

-- a pattern base is that of the set with the rank of a number
pub record IsBelow (base : PatternBase) (number : ℕ) (below : PatternBase) : Type 0 where
  pub conditional : IsConditional base.paths.baskets base.least number below.paths
  pub ranks : below.ranks.items ≡ map (named_pair (ranks_of base)) (pairs_of base.paths.baskets base.least number)
  pub coded : below.coded ≡ base.coded
  pub least : below.least ≡ base.least

-- scratch memory has a slot for each rank of a pattern base
pub record HaveSlots (scratch : ClassScratch) (base : PatternBase) : Type 0 where
  pub sums : base.paths.ranks ≤ scratch.sums
  pub numbers : base.paths.ranks ≤ scratch.numbers

-- scratch memory has as many slots as before
abbrev pub KeepSlots : ClassScratch → ClassScratch → Type 0
KeepSlots before after = (after.sums ≡ before.sums) × (after.numbers ≡ before.numbers)
