use Rattle.std.proofs.Common.{◌≡◌, ◌+◌, ◌-◌, ◌%◌, ◌++◌, false}
use Rattle.std.specs.List.{sum_by}
use Rattle.mine_classes.specs.Mined.{class_size}
use Rattle.mine_conditional.specs.ClassScratch.{IsScratchOf}
use Rattle.mine_phases.specs.Classes.{AreMined}
use Rattle.mine_pieces.specs.WorkerResult.{numbers_of}
use Rattle.mine_phases.proofs.Ranks.{ranks_before}
use Rattle.mine_phases.proofs.classes.Classes.add_classes.Given as goal

abbrev pub invariant-loop-index : goal.invariant-loop-index
invariant-loop-index g l = record {
  scratch : IsScratchOf l.self.ranks l.scratch;
  going : l.tally.over ≡ false;
  limit : l.tally.limit ≡ l.initial.tally.limit;
  turn : l.index % l.self.pieces ≡ l.claimed;
  numbers : numbers_of l.values.items ≡ numbers_of l.initial.values.items ++ ranks_before (g.M.ClassMiner.coding_of l.self.miner.now) l.self.pieces l.claimed l.index;
  each : AreMined (g.M.ClassMiner.coding_of l.self.miner.now) (g.M.ClassMiner.rests_on l.self.miner.now) (g.M.ClassMiner.work_of l.self.miner.now) l.values.items;
  told : l.tally.told ≡ l.initial.tally.told + sum_by (class_size (g.M.ClassMiner.coding_of l.self.miner.now)) (ranks_before (g.M.ClassMiner.coding_of l.self.miner.now) l.self.pieces l.claimed l.index);
}

abbrev pub decreases-loop-index : goal.decreases-loop-index
decreases-loop-index g l = l.self.ranks - l.index
