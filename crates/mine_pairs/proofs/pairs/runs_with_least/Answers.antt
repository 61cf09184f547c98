use Rattle.std.proofs.Common.{arith}
use Rattle.std.proofs.lemmas.Grind.{common_steps}
use Rattle.mine_pairs.proofs.theory.Pairs.{same_pairs}
use Rattle.mine_pairs.proofs.pairs.runs_with_least.Goals as goal

pub returns : goal.returns
returns c = grind (arith, common_steps, c.in_ok-runs.ensures, common_steps, same_pairs)
