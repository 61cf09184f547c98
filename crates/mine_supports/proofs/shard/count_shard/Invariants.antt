use Rattle.std.proofs.Common.{◌≡◌, drop, filter, map, take}
use Rattle.basket_sets.specs.Support.{support_of}
use Rattle.mine_supports.specs.Extensions.{is_some}
use Rattle.mine_supports.proofs.shard.count_shard.Given as goal

abbrev pub invariant-loop-set : goal.invariant-loop-set
invariant-loop-set l = record {
  counts : l.counts.items ≡ map (support_of l.baskets) (take l.set-index l.sets);
  rest : l.rest ≡ map (support_of l.baskets) (filter is_some (drop l.set-index l.sets));
}
