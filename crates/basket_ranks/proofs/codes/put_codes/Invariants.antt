use Rattle.std.proofs.Common.{◌≡◌, ◌++◌, drop, length, map, take}
use Rattle.basket_ranks.specs.Codes.{coded_basket}
use Rattle.basket_ranks.proofs.codes.put_codes.Given as goal

-- the baskets before the index are coded, the others are as they were
abbrev pub invariant-loop-index : goal.invariant-loop-index
invariant-loop-index l = record {
  long : length l.baskets ≡ length l.initial.baskets;
  coded : l.baskets ≡ map (coded_basket l.codes.items) (take l.index l.initial.baskets) ++ drop l.index l.initial.baskets;
}
