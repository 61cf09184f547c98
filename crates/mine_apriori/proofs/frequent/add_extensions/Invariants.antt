use Rattle.std.proofs.Common.{◌≡◌, ◌++◌, ◌∷◌, [], filter, take}
use Rattle.basket_sets.specs.Frequent.{is_frequent}
use Rattle.mine_supports.specs.Extensions.{extend}
use Rattle.mine_apriori.specs.Levels.{decoded_sets}
use Rattle.mine_apriori.proofs.frequent.add_extensions.Given as goal

abbrev pub invariant-loop-index : goal.invariant-loop-index
invariant-loop-index l = record {
  items : l.kept.items ≡ filter (λ item. is_frequent l.coded.baskets l.coded.minimum (l.prefix ++ item ∷ [])) (take l.index l.items);
  found : l.found ≡ l.initial.found ++ decoded_sets l.coded (filter (is_frequent l.coded.baskets l.coded.minimum) (extend l.prefix (take l.index l.items)));
}
