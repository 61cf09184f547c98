use Rattle.std.proofs.Common.{◌≡◌, ◌+◌, ◌≤◌, length}
use Rattle.mine_supports.specs.BlockCounts.{numbered}
use Rattle.mine_supports.specs.Prefixes.{ArePrefixes}
use Rattle.mine_supports.proofs.block.Block.add_prefixes.Given as goal

abbrev pub invariant-loop-depth : goal.invariant-loop-depth
invariant-loop-depth l = record {
  long : length l.prefixes.lists.items ≡ l.depth + 1;
  short : length l.prefixes.lists.items ≤ 1 + length l.items;
  prefixes : ArePrefixes (numbered l.self) l.items l.prefixes.lists.items;
}
