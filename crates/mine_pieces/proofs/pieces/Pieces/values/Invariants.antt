use Rattle.std.proofs.Common.{◌≡◌, ◌≤◌, ◌-◌}
use Rattle.std.specs.Prelude.{All}
use Rattle.std.specs.List.{flat_map}
use Rattle.mine_pieces.specs.Pieces.{parts_of}
use Rattle.mine_pieces.specs.WorkerResult.{numbers_of}
use Rattle.mine_pieces.proofs.theory.Claims.{after}
use Rattle.mine_pieces.proofs.pieces.Pieces.values.Given as goal

abbrev pub invariant-loop-piece : goal.invariant-loop-piece
invariant-loop-piece g l = record {
  own : l.seat.round ≡ l.fn.seat.round;
  within : after l.seat.held.claimed ≤ l.self.phase.now.cutting.pieces;
  tools : g.P.PartWork.are_tools l.self.work.now l.tools;
  claimed : numbers_of l.values.items ≡ flat_map (parts_of (g.P.PartWork.part_count l.self.work.now) l.self.phase.now.cutting.pieces) l.seat.held.claimed;
  each : All (λ value. g.P.PartWork.is_value l.self.work.now value.0 value.1) l.values.items;
}

abbrev pub decreases-loop-piece : goal.decreases-loop-piece
decreases-loop-piece g l = l.self.phase.now.cutting.pieces - after l.seat.held.claimed
