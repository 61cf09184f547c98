use Rattle.std.proofs.Common.{◌≡◌, ◌<◌, ◌+◌, ◌++◌, ◌∷◌, [], length, get_or, sym, ap, ◌∙◌, subst}
use Rattle.std.proofs.lemmas.List.{map-append}
use Rattle.std.proofs.lemmas.List.{get_or_default}
use Rattle.basket_rules.specs.declared.consequents.Consequent.{Consequent}
use Rattle.basket_rules.specs.Listed.{set_at}
use Rattle.basket_rules.specs.Confident.{found_rule, rule_in, rules_in}
use Rattle.basket_rules.specs.Consequents.{side_of}
use Rattle.basket_rules.specs.Rules.{IsRuleFor}
use Rattle.basket_rules.proofs.LevelLemmas.{IsKeptUpTo, kept_one, kept_none}
use Rattle.basket_rules.proofs.association.keep_confident.Goals.{in-Some+in_ok-push+in_ok-push-2, in_default}
use Rattle.basket_rules.proofs.association.keep_confident.Goals as goal

pub loop-consequent-preserved : goal.loop-consequent-preserved
loop-consequent-preserved c =
    let listing = c.args.query.now.frequent.now in
    let confidence = c.args.query.now.confidence in
    let number = c.args.query.now.number in
    let tried = c.args.tried.now in
    let at = c.loop-consequent.consequent-index in
    let old = rules_in listing number c.args.rules.now.items in
    let before = c.loop-consequent.rules.items in
    let met = c.loop-consequent.met.items in
    let consequent : Consequent = get_or tried at (record { bits = 0; first = 0 }) in
    let below : at < length tried = c.loop-consequent-test.true in
    let here : consequent ≡ get_or tried at consequent = get_or_default tried at (record { bits = 0; first = 0 }) consequent below in
    elim c.match-branch-3.branch [
      | in-Some+in_ok-push+in_ok-push-2 w ↦
          (let rule = w.in-Some.rule in
          let rules : rules_in listing number c.match-branch-3.rules.items ≡ rules_in listing number before ++ rule_in listing number rule ∷ [] =
          ap (λ v. rules_in listing number v.items) w.rules-is ∙ ap (rules_in listing number) w.in_ok-push.ensures.items ∙ map-append (rule_in listing number) before (rule ∷ []) in
          let consequents : c.match-branch-3.met.items ≡ met ++ consequent ∷ [] = ap (λ v. v.items) w.met-is ∙ w.in_ok-push-2.ensures.items in
          let found = subst (λ f. IsRuleFor listing confidence number (side_of (set_at listing.sets number) consequent) (found_rule listing number f)) w.in-Some.is c.in_ok-rule.ensures in
          let kept = kept_one listing confidence number at tried consequent below here met old (rules_in listing number before) (rule_in listing number rule) found c.loop-consequent.invariant in
          subst (λ l. IsKeptUpTo listing confidence number (at + 1) tried l old (rules_in listing number c.match-branch-3.rules.items)) (sym consequents)
          (subst (IsKeptUpTo listing confidence number (at + 1) tried (met ++ consequent ∷ []) old) (sym rules) kept))
      | in_default w ↦
          (let rules : rules_in listing number c.match-branch-3.rules.items ≡ rules_in listing number before = ap (λ v. rules_in listing number v.items) w.rules-is in
          let consequents : c.match-branch-3.met.items ≡ met = ap (λ v. v.items) w.met-is in
          let found = subst (λ f. IsRuleFor listing confidence number (side_of (set_at listing.sets number) consequent) (found_rule listing number f)) w.in_default.is c.in_ok-rule.ensures in
          let kept = kept_none listing confidence number at tried consequent below here met old (rules_in listing number before) found c.loop-consequent.invariant in
          subst (λ l. IsKeptUpTo listing confidence number (at + 1) tried l old (rules_in listing number c.match-branch-3.rules.items)) (sym consequents)
          (subst (IsKeptUpTo listing confidence number (at + 1) tried met old) (sym rules) kept))
    ]
