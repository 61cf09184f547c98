use Rattle.std.proofs.Common.{List, ℕ, drop}
use Rattle.mine_baskets.specs.Covers.{HasTid, covers_in}
use Rattle.mine_baskets.proofs.covers.add_tid.Given as goal

-- the tid is still to be added for the rest
abbrev pub invariant-loop-rank : goal.invariant-loop-rank
invariant-loop-rank l = (end : List (List ℕ)) → HasTid l.tid (drop l.rank-index l.basket) (covers_in l.covers) end → HasTid l.tid l.basket (covers_in l.initial.covers) end
