use Rattle.std.proofs.Common.{◌≡◌, ◌++◌, drop, map, nat_eq, take}
use Rattle.std.specs.List.{common_prefix_len}
use Rattle.mine_fp.specs.Tree.{longest, node_of, paths_of, raised}
use Rattle.mine_fp.proofs.tree.add_weight.Given as goal

abbrev pub invariant-loop-node : goal.invariant-loop-node
invariant-loop-node l = record {
  shared : l.shared ≡ common_prefix_len nat_eq (drop l.start l.ranks) l.path;
  raised : l.nodes ≡ map (raised l.ranks l.path l.weight) (take l.node-index l.fn.nodes) ++ drop l.node-index l.fn.nodes;
  known : l.known ≡ longest l.path (paths_of (map (node_of l.ranks) (take l.node-index l.fn.nodes)));
}
