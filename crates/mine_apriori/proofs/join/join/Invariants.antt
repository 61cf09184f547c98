use Rattle.std.proofs.Common.{◌≡◌, ◌++◌, drop, filter, length, suc}
use Rattle.mine_supports.specs.Extensions.{has_items, sets_of}
use Rattle.mine_apriori.specs.Join.{joined_group}
use Rattle.mine_apriori.proofs.join.join.Given as goal

-- what is found and what is still to be joined
abbrev pub invariant-loop-index : goal.invariant-loop-index
invariant-loop-index l =
    l.found ++ filter has_items (joined_group (suc (length l.prefix)) (sets_of l.level) l.prefix (drop l.index l.items))
    ≡ l.initial.found ++ filter has_items (joined_group (suc (length l.prefix)) (sets_of l.level) l.prefix l.items)
