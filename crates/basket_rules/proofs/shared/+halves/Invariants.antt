use Rattle.std.proofs.Common.{◌+◌, ◌*◌}
use Rattle.basket_rules.proofs.shared.+halves.Given as goal

abbrev pub decreases-covered_range : goal.decreases-covered_range
decreases-covered_range g l = 4 * l.times + 3

abbrev pub decreases-both_halves : goal.decreases-both_halves
decreases-both_halves g l = 4 * l.times + 2

abbrev pub decreases-both_halves-join+arg2 : goal.decreases-both_halves-join+arg2
decreases-both_halves-join+arg2 g l = 4 * l.times + 1

abbrev pub decreases-both_halves-join+arg3 : goal.decreases-both_halves-join+arg3
decreases-both_halves-join+arg3 g l = 4 * l.times + 1
