use Rattle.std.proofs.Common.{◌≡◌, filter}
use Rattle.mine_supports.specs.Extensions.{sets_of}
use Rattle.mine_apriori.specs.Join.{has_parts}
use Rattle.mine_apriori.proofs.join.keep_extensions.Given as goal

abbrev pub invariant-loop-index : goal.invariant-loop-index
invariant-loop-index l = l.items.items ≡ filter (has_parts l.index (sets_of l.level) l.set) l.initial.items.items
