use Rattle.std.proofs.Common.{arith}
use Rattle.std.proofs.lemmas.Grind.{common_steps}
use Rattle.mine_pairs.proofs.theory.Kept.{kept_below, pair_ranks}
use Rattle.mine_fp.proofs.trees.Trees.below.Goals as goal

pub rename-requires : goal.rename-requires
rename-requires c = λ item h. grind (arith, common_steps, pair_ranks, kept_below)
