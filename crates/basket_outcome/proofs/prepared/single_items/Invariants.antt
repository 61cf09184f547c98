use Rattle.std.proofs.Common.{◌≡◌, ◌==◌, filter, length, take}
use Rattle.basket_outcome.proofs.prepared.single_items.Given as goal

abbrev pub invariant-loop-index : goal.invariant-loop-index
invariant-loop-index l = l.items ≡ filter (λ c. length c.set == 1) (take l.index l.sets)
