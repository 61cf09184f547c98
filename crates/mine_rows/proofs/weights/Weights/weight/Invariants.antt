use Rattle.std.proofs.Common.{◌≡◌, take}
use Rattle.mine_rows.specs.Cover.{cover_weight}
use Rattle.mine_rows.proofs.weights.Weights.weight.Given as goal

abbrev pub invariant-loop-tid : goal.invariant-loop-tid
invariant-loop-tid l = l.weight ≡ cover_weight l.self (take l.tid-index l.tids)
