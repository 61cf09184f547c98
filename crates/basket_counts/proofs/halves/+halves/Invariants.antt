use Rattle.std.proofs.Common.{◌+◌, ◌*◌}
use Rattle.basket_counts.proofs.halves.+halves.Given as goal

abbrev pub decreases-listed_shared : goal.decreases-listed_shared
decreases-listed_shared g l = 2 * l.workers

abbrev pub decreases-join+arg2 : goal.decreases-join+arg2
decreases-join+arg2 g l = 2 * l.others + 1

abbrev pub decreases-join+arg3 : goal.decreases-join+arg3
decreases-join+arg3 g l = 2 * l.few + 1
