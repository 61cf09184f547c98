use Rattle.std.proofs.Common.{◌≡◌, ◌++◌, filter, take}
use Rattle.std.specs.List.{All}
use Rattle.basket_sets.specs.Itemset.{IsRising}
use Rattle.mine_supports.specs.Extensions.{extend, is_some, sets_of}
use Rattle.mine_supports.specs.Sizes.{IsRegular}
use Rattle.mine_supports.proofs.theory.Grouped.{AreBegun}
use Rattle.mine_supports.proofs.extensions.Extensions.of_sets.Given as goal

abbrev pub invariant-loop-set : goal.invariant-loop-set
invariant-loop-set l = record {
  sets : sets_of l.found ++ extend l.prefix l.items.items ≡ filter is_some (take l.set-index l.sets);
  prefix : IsRising l.prefix;
  items : IsRising l.items.items;
  rising : All IsRising (take l.set-index l.sets);
  begun : IsRegular l.sets → AreBegun l.found l.prefix l.items.items;
}
