use Rattle.std.proofs.Common.{◌+◌, ◌-◌, ◌*◌}
use Rattle.basket_read.proofs.lines.+halves.Given as goal

abbrev pub decreases-feed_shared : goal.decreases-feed_shared
decreases-feed_shared g l = 4 * l.workers

abbrev pub decreases-feed_halves : goal.decreases-feed_halves
decreases-feed_halves g l = 4 * l.workers - 1

abbrev pub decreases-feed_halves-join+arg2 : goal.decreases-feed_halves-join+arg2
decreases-feed_halves-join+arg2 g l = 4 * l.others + 1

abbrev pub decreases-feed_halves-join+arg3 : goal.decreases-feed_halves-join+arg3
decreases-feed_halves-join+arg3 g l = 4 * l.few + 1
