use Rattle.basket_rules.specs.Confident.{rules_in}
use Rattle.basket_rules.proofs.LevelLemmas.{IsKeptUpTo}
use Rattle.basket_rules.proofs.association.keep_confident.Given as goal

abbrev pub invariant-loop-consequent : goal.invariant-loop-consequent
invariant-loop-consequent l =
    IsKeptUpTo l.query.frequent.now l.query.confidence l.query.number l.consequent-index l.tried l.met.items (rules_in l.query.frequent.now l.query.number l.fn.rules.items) (rules_in l.query.frequent.now l.query.number l.rules.items)
