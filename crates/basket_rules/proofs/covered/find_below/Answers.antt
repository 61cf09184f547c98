use Rattle.std.proofs.Common.{rules, ◌≡◌, length, get_or, ap, ◌∙◌, arith}
use Rattle.std.proofs.lemmas.List.{get_or_default}
use Rattle.basket_order.specs.declared.index_table.TheConstants.{NOWHERE}
use Rattle.basket_rules.specs.Listed.{set_at}
use Rattle.basket_rules.proofs.CoveredLemmas.{found_below}
use Rattle.basket_rules.proofs.covered.find_below.Goals as goal

pub returns-then-found-index-clause-found : goal.returns-then-found-index-clause-found
returns-then-found-index-clause-found c =
    let list = c.args.sets.now in
    let found = c.args.found.now in
    let index = c.args.index in
    let full : length found ≡ 63 = search rules in
    let same : get_or found index 0 ≡ get_or found index NOWHERE = get_or_default found index 0 NOWHERE (omega (arith, full, c.if-index-lt-MOST_ITEMS.true)) in
    let there = found_below list c.args.number index found c.requires.found c.if-index-lt-MOST_ITEMS.true c.requires.index (λ e. c.if-found-index.true (same ∙ e)) in
    ap (set_at list) same ∙ there.1
