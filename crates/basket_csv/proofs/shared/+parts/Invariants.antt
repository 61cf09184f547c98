use Rattle.std.proofs.Common.{◌-◌, ◌*◌}
use Rattle.basket_csv.proofs.shared.+parts.Given as goal

abbrev pub decreases-read_parts : goal.decreases-read_parts
decreases-read_parts g l = 4 * l.count

abbrev pub decreases-read_both : goal.decreases-read_both
decreases-read_both g l = 4 * l.count - 1

abbrev pub decreases-read_both-join+arg2 : goal.decreases-read_both-join+arg2
decreases-read_both-join+arg2 g l = 4 * l.count - 3
