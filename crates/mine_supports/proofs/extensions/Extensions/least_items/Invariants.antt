use Rattle.std.proofs.Common.{take}
use Rattle.mine_supports.specs.Extensions.{sets_of}
use Rattle.mine_supports.specs.Needed.{AreAtLeast}
use Rattle.mine_supports.proofs.extensions.Extensions.least_items.Given as goal

abbrev pub invariant-loop-number : goal.invariant-loop-number
invariant-loop-number l = AreAtLeast l.least (sets_of (take l.number l.self))
