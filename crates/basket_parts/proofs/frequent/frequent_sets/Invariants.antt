use Rattle.std.proofs.Common.{◌≡◌, filter, map, take}
use Rattle.basket_parts.specs.Frequent.{counted_of, is_frequent_line}
use Rattle.basket_parts.proofs.frequent.frequent_sets.Given as goal

abbrev pub invariant-loop-line : goal.invariant-loop-line
invariant-loop-line l = l.sets ≡ map counted_of (filter (is_frequent_line l.minimum l.total) (take l.line-index l.lines))
