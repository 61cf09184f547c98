use Rattle.std.proofs.Common.{length}
use Rattle.mine_plain.proofs.subset.+subsets_of_size.Given as goal

abbrev pub decreases-subsets_of_size : goal.decreases-subsets_of_size
decreases-subsets_of_size l = length l.items.now
