use Rattle.mine_conditional.proofs.RankSumLemmas.{HasSums}
use Rattle.mine_conditional.proofs.word_paths.add_ranks.Given as goal

abbrev pub invariant-loop-rest : goal.invariant-loop-rest
invariant-loop-rest l = HasSums l.count l.rest l.word l.fn.sums l.sums

abbrev pub decreases-loop-rest : goal.decreases-loop-rest
decreases-loop-rest l = l.rest
