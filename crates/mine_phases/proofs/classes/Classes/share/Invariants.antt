use Rattle.std.proofs.Common.{◌≡◌, ◌≤◌, ◌-◌, slice_index}
use Rattle.std.specs.List.{flat_map, sum_by}
use Rattle.mine_conditional.specs.ClassScratch.{IsScratchOf}
use Rattle.mine_phases.specs.Classes.{AreMined, claimed_size, ranks_of}
use Rattle.mine_phases.specs.RoundTally.{CountsSets}
use Rattle.mine_pieces.specs.WorkerResult.{numbers_of}
use Rattle.mine_pieces.proofs.theory.Claims.{after}
use Rattle.mine_phases.proofs.classes.Classes.share.Given as goal

abbrev pub invariant-loop-alloc : goal.invariant-loop-alloc
invariant-loop-alloc g l = record {
  counts : CountsSets l.self.round.now l.seat;
  scratch : IsScratchOf l.self.ranks l.scratch;
  within : after l.seat.held.claimed ≤ l.self.pieces;
  numbers : numbers_of l.values.items ≡ flat_map (ranks_of (g.M.ClassMiner.coding_of l.self.miner.now) l.self.pieces) l.seat.held.claimed;
  each : AreMined (g.M.ClassMiner.coding_of l.self.miner.now) (g.M.ClassMiner.rests_on l.self.miner.now) (g.M.ClassMiner.work_of l.self.miner.now) l.values.items;
  told : slice_index l.seat.held.added 0 ≡ sum_by (claimed_size (g.M.ClassMiner.coding_of l.self.miner.now) l.self.pieces) l.seat.held.claimed;
}

abbrev pub decreases-loop-alloc : goal.decreases-loop-alloc
decreases-loop-alloc g l = l.self.pieces - after l.seat.held.claimed

abbrev pub ghosts-mine : goal.ghosts-mine
ghosts-mine g a = record { start = a.seat }
