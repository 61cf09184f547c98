use Rattle.mine_pairs.specs.Runs.{HaveRuns, lists_in}
use Rattle.mine_pairs.proofs.rank_runs.add_runs.Given as goal

abbrev pub invariant-loop-depth : goal.invariant-loop-depth
invariant-loop-depth l = HaveRuns l.path l.basket l.shared l.depth l.range.first (lists_in l.initial.of) (lists_in l.of)
