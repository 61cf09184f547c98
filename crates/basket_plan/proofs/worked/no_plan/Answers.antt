use Rattle.std.proofs.Common.{arith}
use Rattle.std.proofs.lemmas.Grind.{common_steps}
use Rattle.clap.proofs.OnLiterals.{clap_on_literals}
use Rattle.basket_plan.proofs.worked.no_plan.Goals as goal

pub returns : goal.returns
unfolding clap_on_literals
returns c = grind (arith, common_steps)
