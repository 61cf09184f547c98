use Rattle.std.proofs.Common.{ℕ, ◌<◌}
use Rattle.mine_conditional.proofs.paths.have_whole_paths.Given as goal
use Rattle.mine_conditional.proofs.theory.Branches.{IsFullAt}

abbrev pub invariant-loop-rank : goal.invariant-loop-rank
invariant-loop-rank l = (lower : ℕ) → lower < l.rank → IsFullAt lower l.runs.baskets
