use Rattle.std.proofs.Common.{refl}
use Rattle.clap.proofs.OnLiterals.{clap_on_literals}
use Rattle.basket_plan.proofs.worked.counts_of_counts.Goals as goal

pub returns : goal.returns
unfolding clap_on_literals
returns c = refl
