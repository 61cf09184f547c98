use Rattle.std.proofs.Common.{◌+◌, length}
use Rattle.basket_ranks.proofs.theory.Added.{Leaves}
use Rattle.basket_ranks.proofs.added.add_counts.Given as goal

abbrev pub invariant-loop-first : goal.invariant-loop-first
invariant-loop-first l = Leaves l.counts.items l.ours l.theirs l.a l.b

abbrev pub decreases-loop-first : goal.decreases-loop-first
decreases-loop-first l = length l.ours + length l.theirs
