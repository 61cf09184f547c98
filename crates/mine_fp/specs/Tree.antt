-- Prefix trees of weighted paths.
use Rattle.std.specs.Prelude.{◌≡◌, ◌≢◌, ◌↔◌, ◌≤◌, ◌+◌, ◌-◌, ℕ, Bool, true, false, ◌&&◌, ◌==◌, IsTrue, List, [], ◌∷◌, drop, length, map, max, take, if◌then◌else◌}
use Rattle.std.specs.List.{All, AllPairs, Contains, flat_map, range_with_len, sum_by}
use Rattle.basket_sets.specs.declared.weighted.Weighted.{Weighted}
use Rattle.basket_sets.specs.Support.{total_of}
use Rattle.mine_classes.specs.Classes.{ends_in}
use Rattle.mine_fp.specs.declared.tree.Node.{Node}

-- ---- nodes

-- the path of a node, which is a slice of the list of ranks, and its count
abbrev pub node_of : List ℕ → Node → List ℕ × ℕ
node_of ranks node = (take node.depth (drop node.start ranks), node.count)

-- what the nodes of all trees are, whose paths weigh so much
pub record AreNodes (ranks : List ℕ) (nodes : List Node) (total : ℕ) : Type 0 where
  pub inside : All (λ node. node.start + node.depth ≤ length ranks) nodes
  pub light : All (λ node. node.count ≤ total) nodes

-- ---- trees

-- a tree: the path and the count of each node, in the order in which the nodes were made, and the weight of all paths
pub record Tree : Type 0 where
  pub nodes : List (List ℕ × ℕ)
  pub total : ℕ

abbrev pub tree_of : List ℕ → List Node → ℕ → Tree
tree_of ranks nodes total = record { nodes = map (node_of ranks) nodes; total = total }

abbrev pub paths_of : List (List ℕ × ℕ) → List (List ℕ)
paths_of nodes = map (λ node. node.0) nodes

-- whether a path begins another one
abbrev pub begins : List ℕ → List ℕ → Bool
begins [] path = true
begins (rank ∷ ranks) [] = false
begins (rank ∷ ranks) (first ∷ others) = rank == first && begins ranks others

-- the weight of the paths that a path begins
abbrev pub weight_begun : List ℕ → List Weighted → ℕ
weight_begun path paths = sum_by (λ one. if begins path one.basket then one.weight else 0) paths

-- a path that is not empty and begins one of some paths
abbrev pub BeginsOne : List Weighted → List ℕ → Type 0
BeginsOne paths path = (path ≢ []) × ((one : Weighted) × Contains paths one × IsTrue (begins path one.basket))

-- a tree stands for a list of weighted paths (Han, Pei and Yin 2000): no two nodes have one path, a path is a node's exactly where it begins one of the list, and the node's count is the weight of those that it begins
pub record StandsFor (tree : Tree) (paths : List Weighted) : Type 0 where
  pub distinct : AllPairs (λ one other. one ≢ other) (paths_of tree.nodes)
  pub begun : (path : List ℕ) → Contains (paths_of tree.nodes) path ↔ BeginsOne paths path
  pub counted : All (λ node. node.1 ≡ weight_begun node.0 paths) tree.nodes
  pub total : tree.total ≡ total_of paths

-- ---- what is added and asked

-- the length of the longest branch that begins a path
abbrev pub longest : List ℕ → List (List ℕ) → ℕ
longest path [] = 0
longest path (branch ∷ branches) = max (if begins branch path then length branch else 0) (longest path branches)

-- a node with the weight of one more path, if its own path is a prefix of that
abbrev pub raised : List ℕ → List ℕ → ℕ → Node → Node
raised ranks path weight node =
    record { start = node.start; depth = node.depth; count = node.count + (if begins (take node.depth (drop node.start ranks)) path then weight else 0) }

-- the nodes that a path makes: those of its prefixes that have more than so many ranks
abbrev pub made : List ℕ → ℕ → ℕ → List (List ℕ × ℕ)
made path weight known = map (λ rank. (take (rank + 1) path, weight)) (range_with_len known (length path - known))

-- a path without its last rank
abbrev pub front : List ℕ → List ℕ
front path = take (length path - 1) path

-- the paths above the nodes of a rank, with the nodes' counts
abbrev pub base_of : Tree → ℕ → List (List ℕ × ℕ)
base_of tree rank = flat_map (λ node. if ends_in rank node.0 then (front node.0, node.1) ∷ [] else []) tree.nodes
