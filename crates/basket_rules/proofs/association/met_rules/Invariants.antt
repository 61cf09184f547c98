use Rattle.std.proofs.Common.{◌+◌}
use Rattle.basket_rules.specs.Confident.{rules_in}
use Rattle.basket_rules.proofs.LevelLemmas.{IsLevelAt}
use Rattle.basket_rules.proofs.association.met_rules.Given as goal

abbrev pub invariant-loop-size : goal.invariant-loop-size
invariant-loop-size l = IsLevelAt l.frequent l.fn.confidence l.number (l.size + 1) l.consequents.items (rules_in l.frequent l.number l.rules.items)
