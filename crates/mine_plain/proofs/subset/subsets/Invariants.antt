use Rattle.std.proofs.Common.{◌≡◌}
use Rattle.basket_sets.specs.Subsets.{subsets_up_to}
use Rattle.mine_plain.proofs.subset.subsets.Given as goal

abbrev pub invariant-loop-size : goal.invariant-loop-size
invariant-loop-size l = l.sets.items ≡ subsets_up_to l.size l.items
