use Rattle.std.proofs.Common.{◌≡◌, length}
use Rattle.basket_lists.specs.CountedSets.{set_at}
use Rattle.mine_search.specs.Node.{Node}
use Rattle.mine_search.specs.Search.{GoesOn, IsOf, reached}
use Rattle.mine_search.proofs.NodeLemmas.{FindsPart}
use Rattle.mine_search.proofs.search.+extend.Given as goal

abbrev pub decreases-extend : goal.decreases-extend
decreases-extend g l = length (g.P.Projected.ranks l.base.now)

abbrev pub invariant-loop-at : goal.invariant-loop-at
invariant-loop-at g l =
    let at = reached g.P.Projected.number g.T.Tally.told_of g.T.Tally.limit_of g.T.Tally.is_over in
    record {
      lent : g.P.Projected.keeps l.base l.initial.scratch l.scratch;
      limit : g.T.Tally.limit_of l.tally ≡ g.T.Tally.limit_of l.initial.tally;
      going : GoesOn (at l.mined l.tally);
      found : (node : Node) → IsOf g.P.Projected.gives l.base (set_at l.initial.mined.sets l.index) node → FindsPart node l.at (at l.initial.mined l.initial.tally) (at l.mined l.tally);
    }
