use Rattle.std.proofs.Common.{◌≡◌, map, ap, ◌∙◌}
use Rattle.std.proofs.lemmas.Result.{IfOk-weaker}
use Rattle.basket_sets.specs.Counts.{item_supports}
use Rattle.basket_sets.specs.Itemset.{rising}
use Rattle.basket_sets.specs.Support.{all_items, items_of}
use Rattle.basket_sets.proofs.theory.Rising.{rising-rises, rising-rising}
use Rattle.mine_plain.proofs.PlainLemmas.{items_counted}
use Rattle.mine_plain.proofs.plain.items.Goals as goal

pub returns : goal.returns
returns c =
    let database = c.args.database.now in
    let baskets = c.in_ok-counts.ensures.counts ∙ ap item_supports c.baskets.ensures.baskets in
    let items = c.deref-2.ensures.value ∙ c.in_ok-without_supports.ensures
    ∙ ap (map (λ entry. entry.0)) (c.deref.ensures.value ∙ baskets) ∙ items_counted database in
    IfOk-weaker c.from_items.result (λ set. set ≡ rising c.deref-2.result.now) (λ set. set ≡ items_of database)
    (λ set e. e ∙ ap rising items ∙ rising-rising (items_of database) (rising-rises (all_items database))) c.from_items.ensures.ok
