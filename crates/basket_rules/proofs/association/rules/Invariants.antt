use Rattle.basket_rules.proofs.LevelLemmas.{AreRulesUpTo}
use Rattle.basket_rules.proofs.association.rules.Given as goal

abbrev pub invariant-loop-number : goal.invariant-loop-number
invariant-loop-number l = AreRulesUpTo l.frequent l.confidence l.number l.rules.items
