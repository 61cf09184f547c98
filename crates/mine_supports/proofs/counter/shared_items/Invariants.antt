use Rattle.std.proofs.Common.{◌≡◌, take}
use Rattle.mine_supports.proofs.counter.shared_items.Given as goal

abbrev pub invariant-loop-index : goal.invariant-loop-index
invariant-loop-index l = take l.index l.before ≡ take l.index l.items
