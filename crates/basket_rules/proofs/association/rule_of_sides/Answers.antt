use Rattle.std.proofs.Common.{ap, ◌∙◌}
use Rattle.basket_sets.specs.Itemset.{rising}
use Rattle.basket_sets.proofs.theory.Rising.{rising-rising}
use Rattle.basket_rules.proofs.association.rule_of_sides.Goals as goal

pub returns : goal.returns
returns c =
    let sides = c.args.sides.now in
    let counts = c.args.counts.now in
    let antecedent = c.in_ok-from_items.ensures.ok ∙ ap rising c.deref.ensures.value ∙ rising-rising sides.antecedent.items c.requires.antecedent in
    let consequent = c.in_ok-from_items-2.ensures.ok ∙ ap rising c.deref-2.ensures.value ∙ rising-rising sides.consequent.items c.requires.consequent in
    λ i. record { antecedent = antecedent i; consequent = consequent i; count = counts.count; confidence = c.confidence.ensures i; lift = c.lift.ensures i }
