use Rattle.std.proofs.Common.{◌≡◌, ℕ, map, take}
use Rattle.std.specs.declared.vec.Vec.{Vec}
use Rattle.std.specs.declared.alloc.Global.{Global}
use Rattle.mine_fp.specs.Tree.{base_of, tree_of}
use Rattle.mine_fp.proofs.tree.FpTree.base.Given as goal

abbrev pub invariant-loop-node : goal.invariant-loop-node
invariant-loop-node l =
    map (λ (receipt : Vec ℕ Global × ℕ). (receipt.0.items, receipt.1)) l.base.items ≡ base_of (tree_of l.self-inside.ranks.items (take l.node-index l.node-items) l.self-inside.total) l.rank
