use Rattle.std.proofs.Common.{◌≡◌, length, take}
use Rattle.mine_supports.proofs.prefixes.Prefixes.truncate.Given as goal

abbrev pub invariant-loop-self : goal.invariant-loop-self
invariant-loop-self l = take l.len l.self.lists.items ≡ take l.len l.initial.self.lists.items

abbrev pub decreases-loop-self : goal.decreases-loop-self
decreases-loop-self l = length l.self.lists.items
