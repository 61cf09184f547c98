use Rattle.mine_conditional.proofs.WordPathLemmas.{IsFront}
use Rattle.mine_conditional.proofs.word_paths.is_front.Given as goal

abbrev pub invariant-loop-rank : goal.invariant-loop-rank
invariant-loop-rank l = IsFront l.rank l.word.bits
