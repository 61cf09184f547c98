use Rattle.std.proofs.Common.{◌≡◌, take}
use Rattle.mine_pairs.proofs.rank_runs.shared.Given as goal

abbrev pub invariant-loop-index : goal.invariant-loop-index
invariant-loop-index l = take l.index l.a ≡ take l.index l.b
