use Rattle.std.proofs.Common.{◌≤◌, ◌+◌, length, take}
use Rattle.mine_pairs.specs.Sums.{AreSums, WithBasket}
use Rattle.mine_pairs.proofs.rank_list.add_and_list.Given as goal

abbrev pub invariant-loop-rank : goal.invariant-loop-rank
invariant-loop-rank l = record {
  few : l.end ≤ l.fn.count + l.rank-index;
  sums : AreSums (length l.initial.sums) l.sums (take l.end l.ranks);
  added : WithBasket (take l.rank-index l.basket) l.weight l.initial.sums l.sums;
}
