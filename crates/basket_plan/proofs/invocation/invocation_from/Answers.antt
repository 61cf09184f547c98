use Rattle.std.specs.Prelude.{codes}
use Rattle.std.proofs.lemmas.Grind.{common_steps}
use Rattle.std.proofs.Common.{◌∙◌, arith}
use Rattle.std.proofs.lemmas.Result.{IfErr-weaker, IfOk-weaker}
use Rattle.basket_plan.proofs.CommandLemmas.{entered, skips}
use Rattle.basket_plan.proofs.invocation.invocation_from.Goals as goal

pub returns-in-count-clause-made : goal.returns-in-count-clause-made
returns-in-count-clause-made c = grind (arith, common_steps)

pub returns-in-count-clause-refused : goal.returns-in-count-clause-refused
returns-in-count-clause-refused c = grind (arith, common_steps)

pub returns-in_default-name-clause-made : goal.returns-in_default-name-clause-made
returns-in_default-name-clause-made c =
    let enters = entered c.args.matches.now _ _ c.in-Some.ensures.name c.in-Some.ensures.rows ∙ skips _ (codes "count") _ _ c.in_default-name.not-count in
    IfOk-weaker c.reporting.result _ _ (λ invocation made. enters ∙ made) c.reporting.ensures.made

pub returns-in_default-name-clause-refused : goal.returns-in_default-name-clause-refused
returns-in_default-name-clause-refused c =
    let enters = entered c.args.matches.now _ _ c.in-Some.ensures.name c.in-Some.ensures.rows ∙ skips _ (codes "count") _ _ c.in_default-name.not-count in
    IfErr-weaker c.reporting.result _ _ (λ fault refused other. enters ∙ refused other) c.reporting.ensures.refused
