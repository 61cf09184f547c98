use Rattle.std.proofs.Common.{ap, subst, ◌∙◌}
use Rattle.basket_rules.specs.Listed.{set_at}
use Rattle.basket_rules.specs.Consequents.{chosen, has_bit}
use Rattle.basket_rules.specs.Rules.{IsCountIn}
use Rattle.basket_rules.proofs.theory.Consistency.{counted_there}
use Rattle.basket_rules.proofs.query.RuleQuery.count_of.Goals as goal

pub returns-in-Some : goal.returns-in-Some
returns-in-Some c =
    let query = c.args.self.now in
    subst (λ list. IsCountIn list (chosen (has_bit c.args.bits) (set_at query.frequent.now.sets query.number)) c.count.result) c.sets-sets.ensures
    (counted_there c.sets-sets.result.now _ c.in-Some.index c.count.result c.in-Some.ensures.bound
    (c.in-Some.ensures.found ∙ ap (chosen (has_bit c.args.bits)) query.is) c.count.ensures)

pub returns : goal.returns
returns c =
    let query = c.args.self.now in
    let items = c.in_ok-fill.ensures.consequent ∙ ap (chosen (has_bit c.args.bits)) query.is in
    subst (λ list. IsCountIn list (chosen (has_bit c.args.bits) (set_at query.frequent.now.sets query.number)) c.searched_count.result) c.sets-sets.ensures
    (subst (λ set. IsCountIn c.sets-sets.result.now set c.searched_count.result) (c.deref.ensures.value ∙ items) c.searched_count.ensures)
