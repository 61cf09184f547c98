use Rattle.std.proofs.Common.{◌≡◌, ◌*◌, get_or, sym, ap, ◌∙◌, arith}
use Rattle.std.proofs.lemmas.Grind.{common_steps}
use Rattle.basket_core.specs.Fraction.{lowest}
use Rattle.basket_rules.specs.Listed.{set_at, count_at}
use Rattle.basket_rules.specs.Consequents.{has_bit, side_of}
use Rattle.basket_rules.specs.Rules.{difference}
use Rattle.basket_rules.proofs.ConsequentLemmas.{chosen_rises, others_are}
use Rattle.basket_rules.proofs.SearchLemmas.{none, count_is}
use Rattle.basket_rules.proofs.set_index.SetIndex.rule.Goals as goal

pub returns-clause-rule : goal.returns-clause-rule
returns-clause-rule c =
    let listing = c.args.frequent.now in
    let number = c.args.number in
    let met = c.args.met.now in
    let union = set_at listing.sets number in
    let same = c.sets-sets.ensures in
    let counted : c.count.result ≡ count_at listing.sets number =
    c.count.ensures ∙ ap (λ list. (get_or list number none).count) same ∙ sym (count_is listing.sets number none c.requires) in
    let items : c.items_at-items.result.now ≡ union = c.items_at-items.ensures.is ∙ ap (λ list. set_at list number) same in
    let antecedent : c.fill.new.self.antecedent.items ≡ difference union (side_of union met.consequent) = c.in_ok-fill.ensures.antecedent
    ∙ others_are (has_bit met.consequent.bits) 0 c.items_at-items.result.now c.items_at-items.ensures.rising
    ∙ ap (λ l. difference l (side_of l met.consequent)) items in
    let filled : c.fill.new.self.consequent.items ≡ side_of union met.consequent = c.in_ok-fill.ensures.consequent ∙ ap (λ l. side_of l met.consequent) items in
    λ i. record { antecedent = antecedent i; consequent = filled i; count = counted i; confidence = lowest (counted i) met.antecedent_count; lift = lowest (counted i * c.total.ensures i) (met.antecedent_count * met.consequent_count) }

pub returns-clause-antecedent : goal.returns-clause-antecedent
returns-clause-antecedent c = grind (arith, common_steps, chosen_rises)

pub returns-clause-consequent : goal.returns-clause-consequent
returns-clause-consequent c = grind (arith, common_steps, chosen_rises)
