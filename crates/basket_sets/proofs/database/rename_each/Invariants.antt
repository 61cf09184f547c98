use Rattle.std.proofs.Common.{◌≡◌, ◌++◌, drop, length, map, take}
use Rattle.basket_sets.specs.Database.{renamed_basket}
use Rattle.basket_sets.proofs.database.rename_each.Given as goal

-- the baskets before the index are renamed, the others are as they were
abbrev pub invariant-loop-index : goal.invariant-loop-index
invariant-loop-index l = record {
  long : length l.baskets ≡ length l.initial.baskets;
  renamed : l.baskets ≡ map (renamed_basket l.names) (take l.index l.initial.baskets) ++ drop l.index l.initial.baskets;
}
