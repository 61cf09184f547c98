use Rattle.std.proofs.Common.{◌≡◌, ◌<◌, ℕ, true, get_or}
use Rattle.mine_conditional.proofs.WordPathLemmas.{fills, none}
use Rattle.mine_conditional.proofs.word_paths.are_fronts.Given as goal

abbrev pub invariant-loop-word : goal.invariant-loop-word
invariant-loop-word l = (k : ℕ) → k < l.word-index → fills l.count (get_or l.words k none).bits ≡ true
