use Rattle.std.proofs.Common.{◌∙◌, sym, subst, ap}
use Rattle.basket_sets.specs.Itemset.{IsRising, has}
use Rattle.basket_sets.proofs.theory.Rising.{search_is_has}
use Rattle.basket_sets.proofs.itemset.Itemset.contains.Goals as goal

pub returns : goal.returns
returns c =
    let up = subst IsRising (sym c.items.ensures.items) c.items.ensures.rising in
    c.is_ok.ensures.value ∙ search_is_has c.items.result.now c.args.item c.binary_search.result up c.binary_search.ensures.position
    ∙ ap (λ items. has items c.args.item) c.items.ensures.items
