use Rattle.std.proofs.Common.{arith}
use Rattle.std.proofs.lemmas.Grind.{common_steps}
use Rattle.std.proofs.lemmas.List.{take_all}
use Rattle.std.proofs.lemmas.List.Sums.{fold_more}
use Rattle.basket_plan.proofs.CommandLemmas.{stays_local}
use Rattle.basket_plan.proofs.options.with_options.Goals as goal

pub loop-taken-preserved : goal.loop-taken-preserved
loop-taken-preserved c = grind (arith, common_steps, fold_more, stays_local)

pub returns-clause-options : goal.returns-clause-options
returns-clause-options c = grind (arith, common_steps, take_all)
