use Rattle.std.proofs.Common.{◌∙◌, get_or, arith}
use Rattle.std.proofs.lemmas.Grind.{common_steps}
use Rattle.std.proofs.lemmas.List.{get_or_default, length-set}
use Rattle.basket_sets.proofs.CountLemmas.{item_of_basket}
use Rattle.basket_sets.proofs.RenameLemmas.{basket_at, renamed_more}
use Rattle.basket_sets.proofs.database.rename_each.Goals as goal

pub rename-requires : goal.rename-requires
rename-requires c = λ item h.
    let baskets = c.args.baskets.now in
    let i = c.loop-index.index in
    let d = c.index-baskets-index.result in
    let receipt = get_or c.loop-index.baskets i d in
    c.requires item (item_of_basket baskets i receipt c.loop-index-test.true
    (basket_at c.args.names.now baskets c.loop-index.baskets i d c.loop-index-test.true c.loop-index.invariant.renamed ∙ get_or_default baskets i d receipt c.loop-index-test.true) item h)

pub loop-index-preserved : goal.loop-index-preserved
loop-index-preserved c = grind (arith, common_steps, length-set, basket_at, renamed_more)
