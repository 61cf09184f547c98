use Rattle.std.proofs.Common.{length}
use Rattle.mine_pieces.proofs.counting.+add_up.Given as goal

abbrev pub decreases-add_up : goal.decreases-add_up
decreases-add_up l = length l.lists.now
