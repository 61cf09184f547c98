use Rattle.std.proofs.Common.{◌++◌, ap, ◌∙◌}
use Rattle.std.proofs.lemmas.Result.{IfOk-weaker, on_ok_weaker}
use Rattle.basket_sets.specs.Frequent.{is_frequent}
use Rattle.basket_mining.proofs.JoinerLemmas.{found_is, level_is}
use Rattle.basket_mining.proofs.joiner.WorkersJoiner.add_frequent.Goals as goal

pub returns-clause-level : goal.returns-clause-level
returns-clause-level g c =
    let coding = c.args.coded.now in
    IfOk-weaker c.put_together.result _ _
    (λ level is. is ∙ level_is coding (is_frequent coding.baskets coding.minimum) c.args.sets.now c.part_count-parts.result c.in_ok-values.values.items c.part_count-parts.ensures.0 c.in_ok-values.ensures)
    c.put_together.ensures.level

pub returns-clause-found : goal.returns-clause-found
returns-clause-found g c =
    let coding = c.args.coded.now in
    on_ok_weaker c.put_together.result
    (λ is. is ∙ ap (λ l. c.args.found.now ++ l) (found_is coding (is_frequent coding.baskets coding.minimum) c.args.sets.now c.part_count-parts.result c.in_ok-values.values.items c.part_count-parts.ensures.0 c.in_ok-values.ensures))
    c.put_together.ensures.found
