use Rattle.std.proofs.Common.{◌≡◌, false}
use Rattle.basket_checks.proofs.tests.stream.read_through.Given as goal

abbrev pub invariant-loop-reads : goal.invariant-loop-reads
invariant-loop-reads l = l.source.ended ≡ false
