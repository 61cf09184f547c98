use Rattle.std.proofs.Common.{◌≡◌, map, filter}
use Rattle.basket_sets.specs.Frequent.{counted, is_frequent}
use Rattle.mine_plain.proofs.plain.plain_sets.Given as goal

abbrev pub invariant-loop-set : goal.invariant-loop-set
invariant-loop-set l = l.frequent.items ≡ map (counted l.database) (filter (is_frequent l.database l.minimum) l.yielded)
