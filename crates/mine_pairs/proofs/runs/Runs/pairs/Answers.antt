use Rattle.std.proofs.Common.{arith}
use Rattle.std.proofs.lemmas.Grind.{common_steps}
use Rattle.std.proofs.lemmas.Result.{IfOk-weaker}
use Rattle.mine_pairs.proofs.theory.Sums.{pairs_are}
use Rattle.mine_pairs.proofs.runs.Runs.pairs.Goals as goal

pub returns-in_default-clause-pairs : goal.returns-in_default-clause-pairs
returns-in_default-clause-pairs c = grind (arith, common_steps, IfOk-weaker, pairs_are)
