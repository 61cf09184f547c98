use Rattle.std.proofs.Common.{◌∙◌, IfNone, ap, subst, arith}
use Rattle.std.proofs.lemmas.Grind.{common_steps}
use Rattle.basket_rules.specs.Search.{IsMissing}
use Rattle.basket_sets.specs.Itemset.{without}
use Rattle.basket_rules.proofs.covered.search_below.Goals as goal
use Rattle.basket_sets.proofs.theory.Without.{around_is}

pub returns-clause-found : goal.returns-clause-found
returns-clause-found c = grind (arith, common_steps, around_is)

pub returns-clause-missing : goal.returns-clause-missing
returns-clause-missing c =
    subst (λ set. IfNone c.find_near-found.result (IsMissing c.args.sets.now set))
    (around_is c.args.index c.items_at-items.result.now ∙ ap (without c.args.index) c.items_at-items.ensures.is) c.find_near-found.ensures.missing
