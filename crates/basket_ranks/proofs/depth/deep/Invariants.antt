use Rattle.basket_ranks.proofs.DepthLemmas.{Reaches}
use Rattle.basket_ranks.proofs.depth.deep.Given as goal

abbrev pub invariant-loop-size : goal.invariant-loop-size
invariant-loop-size l = Reaches l.coded l.size l.rest.items
