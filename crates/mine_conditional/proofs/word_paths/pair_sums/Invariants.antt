use Rattle.std.proofs.Common.{◌≡◌, ◌<◌, ℕ, get_or, take}
use Rattle.std.specs.List.{sum_by}
use Rattle.mine_conditional.specs.WordPaths.{pair_weight}
use Rattle.mine_conditional.proofs.word_paths.pair_sums.Given as goal

abbrev pub invariant-loop-word : goal.invariant-loop-word
invariant-loop-word l = (other : ℕ) → other < l.rank → get_or l.sums other 0 ≡ sum_by (pair_weight l.rank other) (take l.word-index l.words)
