use Rattle.std.proofs.Common.{◌≡◌, ◌++◌, take}
use Rattle.basket_rules.specs.Consequents.{chosen, has_bit}
use Rattle.basket_rules.proofs.supports.is_side.Given as goal

abbrev pub invariant-loop-item : goal.invariant-loop-item
invariant-loop-item l = chosen (has_bit l.fn.bits) l.union ≡ take l.item-index l.set ++ chosen (has_bit l.rest) l.union
