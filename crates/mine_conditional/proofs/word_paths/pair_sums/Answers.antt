use Rattle.std.proofs.Common.{arith}
use Rattle.std.proofs.lemmas.List.{get_or-replicate}
use Rattle.mine_conditional.proofs.word_paths.pair_sums.Goals as goal

pub loop-word-init : goal.loop-word-init
loop-word-init c = λ other less. get_or-replicate 64 other 0 0 (omega (arith, less, c.requires.rank))
