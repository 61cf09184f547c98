use Rattle.std.proofs.Common.{arith}
use Rattle.std.proofs.lemmas.Grind.{common_steps}
use Rattle.std.proofs.lemmas.List.{length-drop}
use Rattle.std.proofs.lemmas.List.Sums.{common_prefix_len-le}
use Rattle.mine_fp.proofs.tree.shared_ranks.Goals as goal

pub returns-else-shared-path : goal.returns-else-shared-path
returns-else-shared-path c = grind (arith, common_steps, common_prefix_len-le, length-drop)
