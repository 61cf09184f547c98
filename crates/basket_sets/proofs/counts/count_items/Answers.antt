use Rattle.std.proofs.lemmas.Result.{IfOk-weaker}
use Rattle.basket_sets.proofs.theory.Counts.{supports_rise}
use Rattle.basket_sets.proofs.counts.count_items.Goals as goal

pub returns-then-greatest-occurrences-clause-rising : goal.returns-then-greatest-occurrences-clause-rising
returns-then-greatest-occurrences-clause-rising c = IfOk-weaker c.count_by_table.result _ _ (λ counts same. supports_rise counts.items c.args.baskets.now same) c.count_by_table.ensures

pub returns-else-greatest-occurrences-clause-rising : goal.returns-else-greatest-occurrences-clause-rising
returns-else-greatest-occurrences-clause-rising c = IfOk-weaker c.count_by_map.result _ _ (λ counts same. supports_rise counts.items c.args.baskets.now same) c.count_by_map.ensures
