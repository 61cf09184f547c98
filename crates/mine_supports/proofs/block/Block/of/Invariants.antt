use Rattle.std.proofs.Common.{◌≡◌, ◌≤◌, ◌-◌, ◌*◌, [], length, min, take}
use Rattle.mine_supports.specs.Needed.{needed}
use Rattle.mine_supports.specs.TidWord.{AreTidsOf}
use Rattle.mine_supports.specs.Rows.{AreRows}
use Rattle.mine_supports.proofs.block.Block.of.Given as goal

abbrev pub invariant-loop-read : goal.invariant-loop-read
invariant-loop-read l = record {
  within : l.read ≤ length l.baskets;
  few : l.len ≤ l.read;
  long : l.len ≡ length (needed l.used l.least (take l.read l.baskets));
  room : min l.most (length l.baskets) ≤ l.rows.words * 64;
  rows : AreRows l.used (needed l.used l.least (take l.read l.baskets)) l.rows;
  tids : AreTidsOf (needed l.used l.least (take l.read l.baskets)) [] l.tids.items;
}

abbrev pub decreases-loop-read : goal.decreases-loop-read
decreases-loop-read l = length l.baskets - l.read
