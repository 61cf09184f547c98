use Rattle.std.proofs.Common.{◌≡◌, ◌++◌, take}
use Rattle.basket_rules.specs.Consequents.{longer_by}
use Rattle.basket_rules.proofs.consequents.add_longer.Given as goal

abbrev pub invariant-loop-consequent : goal.invariant-loop-consequent
invariant-loop-consequent l = l.consequents.items ≡ l.fn.consequents.items ++ longer_by (take l.consequent-index l.met) l.index
