use Rattle.std.proofs.lemmas.Result.{IfOk-weaker}
use Rattle.mine_supports.specs.Extensions.{AreGrouped}
use Rattle.basket_mining.proofs.JoinerLemmas.{candidates_are, candidates_are_grouped}
use Rattle.basket_mining.proofs.joiner.WorkersJoiner.candidates.Goals as goal

pub returns-clause-candidates : goal.returns-clause-candidates
returns-clause-candidates g c =
    IfOk-weaker c.of_parts.result _ _
    (candidates_are c.args.level.now c.part_count-parts.result c.in_ok-values.values.items c.part_count-parts.ensures.0 c.in_ok-values.ensures c.requires.grouped c.requires.in_order c.requires.rising) c.of_parts.ensures

pub returns-clause-grouped : goal.returns-clause-grouped
returns-clause-grouped g c =
    IfOk-weaker c.of_parts.result _ AreGrouped
    (candidates_are_grouped c.args.level.now c.part_count-parts.result c.in_ok-values.values.items c.part_count-parts.ensures.0 c.in_ok-values.ensures c.requires.grouped c.requires.in_order) c.of_parts.ensures
