use Rattle.std.proofs.Common.{◌≡◌, ◌≤◌, ◌+◌, ◌++◌, take}
use Rattle.mine_conditional.specs.LocalNumbers.{table_numbers}
use Rattle.mine_conditional.proofs.local_numbers.put_numbers.Given as goal

abbrev pub invariant-loop-rank : goal.invariant-loop-rank
invariant-loop-rank l = record {
  few : l.end ≤ l.fn.count + l.rank-index;
  put : take l.end l.locals ≡ take l.fn.count l.initial.locals ++ table_numbers l.of (take l.rank-index l.basket);
}
