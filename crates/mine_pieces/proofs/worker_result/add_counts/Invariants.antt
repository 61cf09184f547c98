use Rattle.std.proofs.Common.{◌≡◌, ◌+◌, ◌<◌, ◌≤◌, ℕ, length, slice_index}
use Rattle.mine_pieces.proofs.worker_result.add_counts.Given as goal

abbrev pub invariant-loop-counter : goal.invariant-loop-counter
invariant-loop-counter l = record {
  own : l.seat.round ≡ l.fn.seat.round;
  claimed : l.seat.held.claimed ≡ l.fn.seat.held.claimed;
  past : l.seat.held.past ≡ l.fn.seat.held.past;
  sized : length l.seat.held.added ≡ length l.fn.seat.held.added;
  added : (k : ℕ) → k < l.counter → slice_index l.seat.held.added k ≡ slice_index l.fn.seat.held.added k + slice_index l.counts k;
  rest : (k : ℕ) → l.counter ≤ k → slice_index l.seat.held.added k ≡ slice_index l.fn.seat.held.added k;
}
