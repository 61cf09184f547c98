use Rattle.std.proofs.Common.{◌≡◌, ◌++◌}
use Rattle.mine_baskets.specs.Words.{ranks_in}
use Rattle.mine_baskets.proofs.words.Word.add_ranks.Given as goal

-- the ranks of the rest are still to come
abbrev pub invariant-loop-rest : goal.invariant-loop-rest
invariant-loop-rest l = l.ranks.items ++ ranks_in l.count l.rest ≡ l.initial.ranks.items ++ ranks_in l.count l.self.bits

abbrev pub decreases-loop-rest : goal.decreases-loop-rest
decreases-loop-rest l = l.rest
