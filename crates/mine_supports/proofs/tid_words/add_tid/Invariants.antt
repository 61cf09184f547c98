use Rattle.std.proofs.Common.{◌≡◌, ℕ, ◌+◌, cond}
use Rattle.mine_supports.specs.TidWord.{has_tid, shared_weight}
use Rattle.mine_supports.proofs.tid_words.add_tid.Given as goal

abbrev pub invariant-loop-rest : goal.invariant-loop-rest
invariant-loop-rest l = (row : ℕ → ℕ) → shared_weight row l.tids.items + cond (has_tid row l.tid) l.rest 0 ≡ shared_weight row l.initial.tids.items + cond (has_tid row l.tid) l.fn.weight 0

abbrev pub decreases-loop-rest : goal.decreases-loop-rest
decreases-loop-rest l = l.rest
