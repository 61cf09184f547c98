use Rattle.std.proofs.Common.{◌+◌, ◌-◌, ◌*◌, length}
use Rattle.basket_csv.proofs.together.+together.Given as goal

abbrev pub decreases-all_together : goal.decreases-all_together
decreases-all_together g l = 4 * length l.parts.items

abbrev pub decreases-both_together : goal.decreases-both_together
decreases-both_together g l = 4 * (length l.parts.items + length l.others.items) - 1

abbrev pub decreases-both_together-join+arg2 : goal.decreases-both_together-join+arg2
decreases-both_together-join+arg2 g l = 4 * length l.others.items + 1

abbrev pub decreases-both_together-join+arg3 : goal.decreases-both_together-join+arg3
decreases-both_together-join+arg3 g l = 4 * length l.parts.items + 1
