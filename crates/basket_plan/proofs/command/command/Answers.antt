use Rattle.std.proofs.Common.{arith}
use Rattle.std.proofs.lemmas.Grind.{common_steps}
use Rattle.std.proofs.lemmas.Result.{IfOk-weaker}
use Rattle.basket_plan.proofs.CommandLemmas.{taken_more}
use Rattle.basket_plan.proofs.command.command.Goals as goal

pub returns-clause-options : goal.returns-clause-options
returns-clause-options c = grind (arith, common_steps, IfOk-weaker, taken_more)

pub returns-clause-local : goal.returns-clause-local
returns-clause-local c = grind (arith, common_steps, IfOk-weaker)
