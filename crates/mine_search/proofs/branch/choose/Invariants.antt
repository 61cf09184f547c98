use Rattle.std.proofs.Common.{◌≡◌, ◌+◌, ◌-◌, ◌++◌, false, length, map}
use Rattle.mine_search.specs.Straight.{between, chosen}
use Rattle.mine_search.proofs.branch.choose.Given as goal

abbrev pub invariant-loop-from : goal.invariant-loop-from
invariant-loop-from g l = record {
  sets : l.mined.sets ≡ l.initial.mined.sets ++ map (chosen l.one.0 l.one.1) (between l.fn.bounds.0 l.from l.initial.mined.sets);
  long : length l.mined.sets ≡ length l.initial.mined.sets + (l.from - l.fn.bounds.0);
  steps : l.mined.steps ≡ l.initial.mined.steps;
  told : g.T.Tally.told_of l.tally ≡ g.T.Tally.told_of l.initial.tally + (l.from - l.fn.bounds.0);
  limit : g.T.Tally.limit_of l.tally ≡ g.T.Tally.limit_of l.initial.tally;
  going : g.T.Tally.is_over l.tally ≡ false;
}
