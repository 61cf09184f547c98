use Rattle.std.proofs.Common.{◌≡◌}
use Rattle.basket_checks.proofs.tests.round.claim_all.Given as goal

abbrev pub invariant-loop : goal.invariant-loop
invariant-loop l = record {
  own : l.seat.round ≡ l.round.id;
  added : l.seat.held.added ≡ l.fn.seat.held.added;
}
