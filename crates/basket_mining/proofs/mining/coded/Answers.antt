use Rattle.std.proofs.Common.{sym, ap, ◌∙◌, subst, ◌∷◌, []}
use Rattle.basket_ranks.proofs.theory.Added.{items_of_map}
use Rattle.basket_ranks.specs.Added.{items_of_counts}
use Rattle.basket_sets.proofs.theory.Rising.{rising-rises}
use Rattle.basket_sets.specs.Itemset.{IsRising}
use Rattle.basket_sets.specs.Support.{all_items, items_of, support_of}
use Rattle.basket_mining.proofs.mining.coded.Goals as goal

pub of-requires : goal.of-requires
of-requires g c =
    let baskets = c.args.database in
    let is = c.deref.ensures.value ∙ c.requires in
    subst IsRising (sym (ap items_of_counts is ∙ items_of_map (λ item. support_of baskets (item ∷ [])) (items_of baskets))) (rising-rises (all_items baskets))
