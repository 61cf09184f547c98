use Rattle.std.proofs.Common.{◌∙◌, ◌+◌, ap, arith, map, nat_eq, unwrap_or}
use Rattle.std.proofs.lemmas.Grind.{common_steps}
use Rattle.std.specs.Cmp.Lexicographic.{pointwise}
use Rattle.indexmap.specs.IndexMap.{insert_entry}
use Rattle.basket_sets.specs.Merge.{as_weighted}
use Rattle.basket_sets.proofs.MergeLemmas.{light_before, inserted}
use Rattle.basket_sets.proofs.merge.add.Goals as goal

pub overflow_add-weights : goal.overflow_add-weights
overflow_add-weights g c = grind (arith, common_steps, light_before)

pub returns : goal.returns
returns g c =
    let basket = c.args.weighted.basket in
    let weight = c.args.weighted.weight in
    let entries = c.args.weights.now.entries in
    let here = c.or_insert.ensures.value ∙ ap (λ o. unwrap_or o 0) c.in_ok-weights.ensures.value in
    let all = c.in_ok-weights.ensures.update.1 (c.or_insert.result.now + weight) ∙ ap (λ n. insert_entry (pointwise nat_eq) entries basket (n + weight)) here in
    let merged = ap (map as_weighted) all ∙ inserted basket weight entries in
    grind (arith, merged)
