use Rattle.std.proofs.Common.{arith}
use Rattle.std.proofs.lemmas.Grind.{common_steps}
use Rattle.std.proofs.lemmas.List.{length_push}
use Rattle.mine_supports.proofs.PrefixLemmas.{next_prefix}
use Rattle.mine_supports.proofs.block.Block.add_prefixes.Goals as goal

pub loop-depth-preserved : goal.loop-depth-preserved
loop-depth-preserved c = grind (arith, common_steps, length_push, next_prefix)
