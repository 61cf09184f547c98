use Rattle.std.proofs.Common.{◌≡◌, length, slice_index}
use Rattle.basket_checks.proofs.tests.round.count_up.Given as goal

abbrev pub invariant-loop : goal.invariant-loop
invariant-loop l = record {
  own : l.seat.round ≡ l.round.id;
  one : length l.seat.held.added ≡ 1;
  added : slice_index l.seat.held.added 0 ≡ l.counter;
}
