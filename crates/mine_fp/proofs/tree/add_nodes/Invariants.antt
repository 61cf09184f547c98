use Rattle.std.proofs.Common.{◌≡◌, ◌≤◌, ◌+◌, ◌-◌, ◌++◌, length, map, vec_len}
use Rattle.std.specs.Vec.{vec_capacity}
use Rattle.std.specs.List.{range_with_len}
use Rattle.mine_fp.proofs.NodeLemmas.{made_at}
use Rattle.mine_fp.proofs.tree.add_nodes.Given as goal

abbrev pub invariant-loop-depth : goal.invariant-loop-depth
invariant-loop-depth l = record {
  room : vec_len l.nodes + (length l.path - l.depth) ≤ vec_capacity l.nodes;
  made : l.nodes.items ≡ l.fn.nodes.items ++ map (made_at l.start l.weight) (range_with_len l.known (l.depth - l.known));
}
