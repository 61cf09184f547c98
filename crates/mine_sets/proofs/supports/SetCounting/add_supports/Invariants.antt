use Rattle.std.proofs.Common.{◌≡◌, ◌≤◌, ◌-◌, length}
use Rattle.std.specs.Prelude.{replicate}
use Rattle.mine_pieces.proofs.theory.Claims.{after}
use Rattle.mine_sets.proofs.SupportLemmas.{HasAdded}
use Rattle.mine_sets.proofs.supports.SetCounting.add_supports.Given as goal

abbrev pub invariant-loop-piece : goal.invariant-loop-piece
invariant-loop-piece g l = record {
  own : l.seat.round ≡ l.fn.seat.round;
  within : after l.seat.held.claimed ≤ l.pieces;
  none : l.seat.held.added ≡ replicate (length l.self.counter.now) 0;
  counted : HasAdded l.self.baskets.now l.pieces l.self.counter.now l.seat.held.claimed l.counts.items;
}

abbrev pub decreases-loop-piece : goal.decreases-loop-piece
decreases-loop-piece g l = l.pieces - after l.seat.held.claimed
