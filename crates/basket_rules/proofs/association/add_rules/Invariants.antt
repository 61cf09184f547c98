use Rattle.std.proofs.Common.{◌≡◌, ◌++◌, take}
use Rattle.basket_rules.specs.Confident.{rules_in}
use Rattle.basket_rules.proofs.association.add_rules.Given as goal

abbrev pub invariant-loop-rule : goal.invariant-loop-rule
invariant-loop-rule l = l.rules.items ≡ l.fn.rules.items ++ rules_in l.frequent l.number (take l.rule-index l.met)
