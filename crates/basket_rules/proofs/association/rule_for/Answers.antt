use Rattle.std.proofs.Common.{leb, ◌*◌, ◌≤◌, length, sym, ap, ◌∙◌, subst, arith}
use Rattle.std.proofs.lemmas.Grind.{common_steps}
use Rattle.basket_rules.specs.Listed.{set_at}
use Rattle.basket_rules.specs.Rules.{IsCountIn}
use Rattle.basket_rules.proofs.SideLemmas.{antecedent_side}
use Rattle.basket_rules.proofs.RuleLemmas.{no_rule, a_found_rule}
use Rattle.basket_rules.proofs.theory.Consistency.{set_nonempty}
use Rattle.basket_rules.proofs.association.rule_for.Goals as goal

pub returns-then-not-meets : goal.returns-then-not-meets
returns-then-not-meets c = λ consistent. grind (arith, common_steps, antecedent_side, set_nonempty, no_rule)

pub returns : goal.returns
returns c = λ consistent.
    let query = c.args.query.now in
    let listing = query.frequent.now in
    let union = set_at listing.sets query.number in
    let antecedent_count = c.in_ok-antecedent_count.antecedent_count in
    let few : length union ≤ 64 = subst (λ l. length l ≤ 64) query.is query.few in
    let antecedent = antecedent_side c.args.consequent union (omega arith) few (set_nonempty listing.sets consistent query.number query.listed).0 in
    let antecedent_is = subst (λ l. IsCountIn listing.sets l antecedent_count) antecedent c.in_ok-antecedent_count.ensures in
    let test = c.meets.ensures ∙ ap (λ n. leb (query.confidence.0 * antecedent_count) (n * query.confidence.1)) query.counted in
    a_found_rule listing query.number query.listed c.args.consequent query.confidence antecedent_count c.in_ok-consequent_count.consequent_count c.new.result antecedent_is c.in_ok-consequent_count.ensures
    (sym test ∙ c.if-not-meets.false) c.new.ensures.some c.new.ensures.none consistent
