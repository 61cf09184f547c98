use Rattle.std.proofs.Common.{arith}
use Rattle.std.proofs.lemmas.Grind.{common_steps}
use Rattle.std.proofs.lemmas.List.{length-set}
use Rattle.basket_ranks.proofs.CodeLemmas.{coded_more}
use Rattle.basket_ranks.proofs.codes.put_codes.Goals as goal

pub loop-index-preserved : goal.loop-index-preserved
loop-index-preserved c = grind (arith, common_steps, length-set, coded_more)
