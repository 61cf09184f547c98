use Rattle.std.proofs.Common.{◌++◌, length, ap, ◌∙◌, arith}
use Rattle.std.proofs.lemmas.Grind.{common_steps}
use Rattle.basket_rules.specs.Confident.{rules_in}
use Rattle.basket_rules.proofs.LevelLemmas.{AreRulesUpTo, more_rules, all_rules}
use Rattle.basket_rules.proofs.theory.Rules.{rules_of_baskets}
use Rattle.basket_rules.proofs.association.rules.Goals as goal

pub loop-number-preserved : goal.loop-number-preserved
loop-number-preserved c =
    let listing = c.args.frequent.now in
    let number = c.loop-number.number in
    let rules = c.loop-number.rules.items in
    let added = c.in_ok-add_rules.ensures ∙ ap (λ l. rules ++ rules_in listing number l) c.deref.ensures.value in
    grind (arith, common_steps, AreRulesUpTo, more_rules)

pub returns : goal.returns
returns c =
    let rules = c.loop-number.rules.items in
    let lists = all_rules c.args.frequent.now c.args.confidence c.loop-number.number rules (omega (arith, ap length c.sets-sets.ensures)) c.loop-number.invariant in
    record { baskets = rules_of_baskets c.args.frequent.now c.args.confidence rules lists; lists = lists }
