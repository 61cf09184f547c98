use Rattle.std.proofs.Common.{arith, ◌≡◌, ◌≤◌, ◌<◌, ◌+◌, ◌-◌, ◌^◌, [], ◌∷◌, length, sym, ap, ◌∙◌, subst}
use Rattle.basket_rules.specs.declared.consequents.TheConstants.{MOST_BITS}
use Rattle.basket_rules.specs.Consistency.{IsConsistent}
use Rattle.basket_rules.specs.Listed.{set_at}
use Rattle.basket_rules.specs.Consequents.{longer, no_bits}
use Rattle.basket_rules.specs.Confident.{rules_in}
use Rattle.basket_rules.specs.Rules.{KeepsConfident, rules_among_with}
use Rattle.basket_rules.proofs.LevelLemmas.{IsLevelAt, first_level, next_level, all_levels}
use Rattle.basket_rules.proofs.SizeLemmas.{none_so_large}
use Rattle.basket_rules.proofs.theory.Rules.{rules_with_of_baskets}
use Rattle.basket_rules.proofs.association.met_rules.Goals as goal

pub returns-then-count-gt-MOST_BITS : goal.returns-then-count-gt-MOST_BITS
returns-then-count-gt-MOST_BITS c =
    let listing = c.args.frequent.now in
    let number = c.args.number in
    let same = c.sets-sets.ensures in
    let sized = ap length (c.items_at-items.ensures.is ∙ ap (λ l. set_at l number) same) in
    let deep : MOST_BITS < length (set_at listing.sets number) = subst (λ n. MOST_BITS < n) sized c.if-count-gt-MOST_BITS.true in
    let fits : length listing.sets < 2 ^ 64 = subst (λ l. length l < 2 ^ 64) same (omega (arith, c.len.ensures)) in
    let rules = rules_in listing number c.in_ok-rules.rules.items in
    let lists : IsConsistent listing.sets → rules ≡ rules_among_with listing c.args.confidence (set_at listing.sets number) = λ consistent.
    absurd (none_so_large listing.sets consistent number c.requires fits deep) in
    record { baskets = rules_with_of_baskets listing c.args.confidence number rules c.requires lists; lists = lists }

pub loop-size-init : goal.loop-size-init
loop-size-init c =
    let listing = c.args.frequent.now in
    let number = c.args.number in
    let sized = ap length (c.items_at-items.ensures.is ∙ ap (λ l. set_at l number) c.sets-sets.ensures) in
    let made : c.in_ok-consequents.consequents.items ≡ longer (length (set_at listing.sets number)) (no_bits ∷ []) =
    c.in_ok-consequents.ensures ∙ (λ i. longer (sized i) (c.none.ensures i ∷ [])) in
    subst (λ l. IsLevelAt listing c.args.confidence number 1 c.in_ok-consequents.consequents.items (rules_in listing number l)) (sym c.in_ok-rules.ensures.items)
    (subst (λ l. IsLevelAt listing c.args.confidence number 1 l []) (sym made) (first_level listing c.args.confidence number (subst (λ n. n ≤ MOST_BITS) sized c.if-count-gt-MOST_BITS.false)))

pub loop-size-preserved : goal.loop-size-preserved
loop-size-preserved c =
    let listing = c.args.frequent.now in
    let number = c.args.number in
    let sized = ap length (c.items_at-items.ensures.is ∙ ap (λ l. set_at l number) c.sets-sets.ensures) in
    let size = c.loop-size.size + 1 in
    let met = c.in_ok-met.met.items in
    let made : c.in_ok-consequents-2.consequents.items ≡ longer (length (set_at listing.sets number)) met = c.in_ok-consequents-2.ensures ∙ (λ i. longer (sized i) (c.deref-in-loop-size.ensures.value i)) in
    let few : length (set_at listing.sets number) ≤ MOST_BITS = subst (λ n. n ≤ MOST_BITS) sized c.if-count-gt-MOST_BITS.false in
    let most : c.most_consequent_items-size-end.result ≡ length (set_at listing.sets number) - 1 = c.most_consequent_items-size-end.ensures ∙ ap (λ n. n - 1) sized in
    let some : 1 ≤ size = omega arith in
    let less : size < length (set_at listing.sets number) = omega (arith, most, c.loop-size-test.true) in
    subst (λ l. IsLevelAt listing c.args.confidence number (size + 1) l (rules_in listing number c.keep_confident.new.rules.items)) (sym made)
    (λ consistent. next_level listing c.args.confidence number size c.requires few some less c.loop-size.consequents.items met (rules_in listing number c.loop-size.rules.items) (rules_in listing number c.keep_confident.new.rules.items)
    (subst (λ r. KeepsConfident listing c.args.confidence number r met (rules_in listing number c.loop-size.rules.items) (rules_in listing number c.keep_confident.new.rules.items)) c.deref.ensures.value c.in_ok-met.ensures) c.loop-size.invariant consistent)

pub returns : goal.returns
returns c =
    let listing = c.args.frequent.now in
    let number = c.args.number in
    let sized = ap length (c.items_at-items.ensures.is ∙ ap (λ l. set_at l number) c.sets-sets.ensures) in
    let size = c.loop-size.size in
    let most : c.most_consequent_items-size-end.result ≡ length (set_at listing.sets number) - 1 = c.most_consequent_items-size-end.ensures ∙ ap (λ n. n - 1) sized in
    let rules = rules_in listing number c.loop-size.rules.items in
    let lists = all_levels listing c.args.confidence number (size + 1) c.loop-size.consequents.items rules c.requires
    (omega (arith, most, c.loop-size-test.false)) (λ some. omega (arith, most, c.loop-size.auto.size-end)) c.loop-size.invariant in
    record { baskets = rules_with_of_baskets listing c.args.confidence number rules c.requires lists; lists = lists }
