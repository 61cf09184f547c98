use Rattle.std.proofs.Common.{◌≡◌, ◌-◌, [], get_or, length, take}
use Rattle.mine_supports.specs.BlockCounts.{numbered}
use Rattle.mine_supports.specs.Counter.{AreAdded}
use Rattle.mine_supports.specs.Prefixes.{ArePrefixes}
use Rattle.mine_supports.specs.Extensions.{groups_of, sets_of}
use Rattle.mine_supports.proofs.counter.RowCounter.add_block.Given as goal

abbrev pub invariant-loop-number : goal.invariant-loop-number
invariant-loop-number l = record {
  starts : l.start ≡ length (sets_of (take l.number (groups_of l.prefixes l.items-items)));
  added : AreAdded (sets_of (take l.number (groups_of l.prefixes l.items-items))) (numbered l.block) 0 l.initial.counts l.counts;
  prefixes : ArePrefixes (numbered l.block) (get_or l.prefixes (l.number - 1) []) l.shared.lists.items;
}
