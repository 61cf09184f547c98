use Rattle.std.proofs.Common.{◌≡◌, []}
use Rattle.std.specs.Prelude.{replicate}
use Rattle.mine_pairs.specs.Runs.{lists_in}
use Rattle.mine_pairs.proofs.rank_runs.no_runs.Given as goal

abbrev pub invariant-loop-rank : goal.invariant-loop-rank
invariant-loop-rank l = lists_in l.of.items ≡ replicate l._rank []
