use Rattle.std.proofs.Common.{◌≡◌, ◌++◌, ◌∷◌, [], map, take}
use Rattle.basket_sets.specs.Itemset.{IsRising}
use Rattle.mine_supports.specs.Extensions.{extend, sets_of}
use Rattle.mine_supports.proofs.theory.Grouped.{AreBegun}
use Rattle.mine_apriori.proofs.pairs.pair_sets.Given as goal

abbrev pub invariant-loop-pair : goal.invariant-loop-pair
invariant-loop-pair l = record {
  sets : sets_of l.found ++ extend (l.lesser ∷ []) l.greater.items ≡ take l.pair-index (map (λ pair. pair.ranks) l.pairs);
  begun : AreBegun l.found (l.lesser ∷ []) l.greater.items;
  rises : IsRising l.greater.items;
  counts : l.counts.items ≡ map (λ pair. pair.count) (take l.pair-index l.pairs);
}
